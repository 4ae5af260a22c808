use Rattle.std.proofs.Common.{List, subst, arith}
use Rattle.std.specs.List.{All}
use Rattle.std.proofs.lemmas.List.{take_all}
use Rattle.std.proofs.lemmas.List.Elements.{All-nil, All-more}
use Rattle.mi_script.specs.declared.rec.Rec.{Rec}
use Rattle.mi_carry.proofs.KnownLemmas.{IsKnown, reads_again}
use Rattle.mi_carry.proofs.known.reads_again.Goals as goal

pub loop-rec-init : goal.loop-rec-init
loop-rec-init c = All-nil IsKnown

pub loop-rec-preserved : goal.loop-rec-preserved
loop-rec-preserved c = All-more IsKnown c.args.recs.now c.loop-rec.rec-index c.rec-item.result c.loop-rec-test.true c.loop-rec.invariant (subst IsKnown c.rec-item.is c.rec_is_known.ensures)

pub returns : goal.returns
returns c = reads_again c.args.recs.now c.args.bytes.now c.requires (omega arith) (omega arith)
    (subst (λ (rs : List Rec). All IsKnown rs) (take_all c.loop-rec.rec-index c.args.recs.now c.loop-rec-test.false) c.loop-rec.invariant)
