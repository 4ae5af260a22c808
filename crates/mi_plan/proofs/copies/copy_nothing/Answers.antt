use Rattle.std.proofs.Common.{◌≡◌, false, subst, sym, ◌∙◌}
use Rattle.std.specs.List.{All}
use Rattle.std.proofs.lemmas.List.{take_all}
use Rattle.std.proofs.lemmas.List.Elements.{All-more}
use Rattle.mi_script.specs.declared.rec.Rec.{Rec}
use Rattle.mi_plan.specs.Lengths.{is_copy}
use Rattle.mi_plan.proofs.copies.copy_nothing.Goals as goal

pub loop-rec-preserved : goal.loop-rec-preserved
loop-rec-preserved c =
    let P : Rec → Type 0 = λ r. is_copy r ≡ false in
    All-more P c.args.recs.now c.loop-rec.rec-index c.rec-item.result c.loop-rec-test.true c.loop-rec.invariant
    (subst P c.rec-item.is (sym c.is_copy.ensures ∙ c.if-is_copy.false))

pub returns : goal.returns
returns c = λ is. subst (All (λ (r : Rec). is_copy r ≡ false)) (take_all c.loop-rec.rec-index c.args.recs.now c.loop-rec-test.false) c.loop-rec.invariant
