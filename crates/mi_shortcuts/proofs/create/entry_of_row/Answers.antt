-- The target first.
use Rattle.std.proofs.Common.{List, ℕ, sym, subst}
use Rattle.std.specs.Prelude.{Result}
use Rattle.mi_base.specs.declared.answers.Fault.{Fault}
use Rattle.mi_base.specs.declared.entry.Entry.{Entry}
use Rattle.mi_model.specs.Shortcuts.{target_text}
use Rattle.mi_records.specs.Meaning.{numbered}
use Rattle.mi_records.specs.Stops.{Tells}
use Rattle.mi_shortcuts.specs.Entries.{with_arguments, entry_of_row}
use Rattle.mi_shortcuts.proofs.ShortcutLemmas.{then_ok, then_err}
use Rattle.mi_row_steps.proofs.RowLemmas.{told_on}
use Rattle.mi_shortcuts.proofs.create.entry_of_row.Goals as goal

pub returns-in-Ok-clause-entry : goal.returns-in-Ok-clause-entry
returns-in-Ok-clause-entry g c = λ w asked.
    let r = numbered c.args.number c.args.row.now in
    subst (λ (does : Result Entry Fault). Tells does c.with_target.result) (sym (then_ok (with_arguments w r c.args.path.now) (target_text w r) c.in-Ok.target (c.in-Ok.ensures w asked))) (c.with_target.ensures.entry w asked)

pub returns-in-Err-clause-entry : goal.returns-in-Err-clause-entry
returns-in-Err-clause-entry g c = λ w asked.
    let r = numbered c.args.number c.args.row.now in
    told_on (λ (t : List ℕ). t) (λ (e : Entry). e) (target_text w r) (entry_of_row w r c.args.path.now) c.in-Err.error (then_err (with_arguments w r c.args.path.now) (target_text w r)) (c.in-Err.ensures w asked)
