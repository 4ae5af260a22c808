use Rattle.std.proofs.Common.{sym, ◌∙◌}
use Rattle.std.proofs.lemmas.Result.{err_from_is_err_and}
use Rattle.mi_world.proofs.CostLemmas.{selected_so, unselected_so}
use Rattle.mi_world.proofs.seen.Seen.selected.Goals as goal

pub returns : goal.returns
returns c = λ held files g dirs knows none at former.
    sym (selected_so g c.args.self.now dirs c.dirs.result.now knows none at c.dirs.ensures) ∙ c.in_ok-selection.ensures held files g (sym knows.rows) (sym former)

pub returns-in_err-selection : goal.returns-in_err-selection
returns-in_err-selection c = λ held files g dirs knows none at former.
    let p = err_from_is_err_and c.from_residual.result c.from_residual.ensures.1 in
    rw p.1 (unselected_so c.in_err-selection.field-0.0 p.0 _ _ p.2 (selected_so g c.args.self.now dirs c.dirs.result.now knows none at c.dirs.ensures) (c.in_err-selection.ensures held files g (sym knows.rows) (sym former)))
