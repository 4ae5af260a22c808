use Rattle.std.proofs.Common.{List, ℕ, Ok, sym, subst, ◌∙◌}
use Rattle.std.specs.FinMap.{get}
use Rattle.mi_undo.specs.Entry.{Gathers}
use Rattle.mi_undo.proofs.GatherLemmas.{ungathered, no_old}
use Rattle.mi_undo.proofs.gather.gather_old.Goals as goal

pub returns-then-len-eq0-clause-gathers : goal.returns-then-len-eq0-clause-gathers
returns-then-len-eq0-clause-gathers g c = λ told ne long before is.
    let s = g.V.Volume.state c.args.vol.now in
    subst (λ (l : List ℕ). Gathers {T = Unit {0}} c.args.entry.now before c.args.pending.now l c.args.pending.now s s (Ok tt)) (sym (no_old (get s.held c.args.name.now) (sym long ∙ c.if-len-eq0.true)))
    (ungathered s c.args.entry.now before c.args.pending.now tt is)

pub returns-clause-gathers : goal.returns-clause-gathers
returns-clause-gathers g c = λ told ne long before is. c.gather_piece.ensures.gathers told long before is
