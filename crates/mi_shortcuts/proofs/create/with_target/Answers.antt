-- The path is copied.
use Rattle.std.proofs.Common.{List, ℕ, subst}
use Rattle.std.specs.Prelude.{IfOk}
use Rattle.mi_records.specs.Meaning.{numbered}
use Rattle.mi_records.specs.Stops.{Tells}
use Rattle.mi_shortcut_rows.specs.Entries.{IsShortcutAt}
use Rattle.mi_shortcuts.specs.Entries.{with_arguments}
use Rattle.mi_shortcuts.proofs.create.with_target.Goals as goal

pub returns-in-Ok-clause-entry : goal.returns-in-Ok-clause-entry
returns-in-Ok-clause-entry g c = λ w asked.
    subst (λ (p : List ℕ). Tells (with_arguments w (numbered c.args.number c.args.row.now) p c.args.target) c.with_arguments.result) c.in-Ok.ensures (c.with_arguments.ensures.entry w asked)

pub returns-in-Ok-clause-at : goal.returns-in-Ok-clause-at
returns-in-Ok-clause-at g c = subst (λ (p : List ℕ). IfOk c.with_arguments.result (IsShortcutAt p)) c.in-Ok.ensures c.with_arguments.ensures.at
