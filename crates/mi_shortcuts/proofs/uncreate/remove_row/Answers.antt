-- The path first.
use Rattle.std.proofs.Common.{List, ℕ, ◌∙◌}
use Rattle.std.specs.Prelude.{Ok}
use Rattle.mi_base.specs.Names.{shortcut_name}
use Rattle.mi_model.specs.Shortcuts.{path_or_refused, without_shortcut}
use Rattle.mi_steps.specs.Makes.{plan_machine}
use Rattle.mi_records.specs.Meaning.{numbered}
use Rattle.mi_records.proofs.ClientLemmas.{row_same}
use Rattle.mi_shortcuts.specs.Entries.{remove_effect}
use Rattle.mi_row_steps.proofs.RowLemmas.{row_untold}
use Rattle.mi_shortcuts.proofs.ShortcutLemmas.{removed_by, then_ok, then_err}
use Rattle.mi_shortcuts.proofs.uncreate.remove_row.Goals as goal

pub returns-in-Ok-clause-row : goal.returns-in-Ok-clause-row
returns-in-Ok-clause-row g c = λ held files w asked guards.
    let r = numbered c.args.row.0 c.args.row.1.now in
    let m = plan_machine held files c.args.plan.now in
    row_same held files c.args.plan.now c.take_row-done.new.plan (λ m. Ok (without_shortcut w (shortcut_name c.in-Ok.path))) (remove_effect w r) c.take_row-done.result
    (removed_by w r m ∙ then_ok (λ path. Ok (without_shortcut w (shortcut_name path))) (path_or_refused w r) c.in-Ok.path (c.in-Ok.ensures.path w asked)) (c.take_row-done.ensures.row held files w guards)

pub returns-in-Err-clause-row : goal.returns-in-Err-clause-row
returns-in-Err-clause-row g c = λ held files w asked guards.
    let r = numbered c.args.row.0 c.args.row.1.now in
    let m = plan_machine held files c.args.plan.now in
    row_untold held files c.args.plan.now c.args.plan.now (Unit {0}) (λ (p : List ℕ). p) (path_or_refused w r) (remove_effect w r) c.in-Err.error
    (λ f is. removed_by w r m ∙ then_err (λ path. Ok (without_shortcut w (shortcut_name path))) (path_or_refused w r) f is) (c.in-Err.ensures.path w asked)
