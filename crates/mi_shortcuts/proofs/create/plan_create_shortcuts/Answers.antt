-- The rows of the phase, carried out.
use Rattle.std.proofs.Common.{◌≡◌, map, ap, ◌∙◌}
use Rattle.mi_schema.specs.declared.typed_rows.ShortcutRow.{ShortcutRow}
use Rattle.mi_model.specs.Asked.{comes}
use Rattle.mi_model.specs.ComponentRows.{rows_that}
use Rattle.mi_model.specs.Shortcuts.{create_shortcuts}
use Rattle.mi_records.specs.Order.{as_numbered}
use Rattle.mi_records.proofs.PhaseLemmas.{phase_of}
use Rattle.mi_shortcuts.specs.Entries.{create_effect}
use Rattle.mi_shortcuts.proofs.ShortcutLemmas.{create_effects}
use Rattle.mi_shortcuts.proofs.create.plan_create_shortcuts.Goals as goal

pub returns-clause-phase : goal.returns-clause-phase
returns-clause-phase g c = λ held files w asked at.
    let rows = c.as_slice.result.now in
    let these : map as_numbered rows ≡ rows_that (λ (r : ShortcutRow). r.shortcut) (λ (r : ShortcutRow). r.component) (comes w) w.given.rows.shortcut = ap (map as_numbered) c.as_slice.ensures.value ∙ c.in_ok-rows.ensures.rows w asked in
    phase_of held files c.args.plan.now c.create_rows.new.plan create_shortcuts w (map (λ r. create_effect w (as_numbered r)) rows) c.create_rows.result (create_effects w rows these) at (c.create_rows.ensures.rows held files w asked)
