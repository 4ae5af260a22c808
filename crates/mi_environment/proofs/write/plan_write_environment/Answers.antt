-- The rows of the phase, carried out.
use Rattle.std.proofs.Common.{◌≡◌, map, ap, ◌∙◌}
use Rattle.mi_schema.specs.declared.typed_rows.EnvironmentRow.{EnvironmentRow}
use Rattle.mi_model.specs.Asked.{comes}
use Rattle.mi_model.specs.ComponentRows.{rows_that}
use Rattle.mi_model.specs.WriteEnvironmentStrings.{write_string, write_environment_strings}
use Rattle.mi_records.specs.Order.{as_numbered}
use Rattle.mi_records.proofs.PhaseLemmas.{phase_of}
use Rattle.mi_environment.proofs.WriteLemmas.{write_effects}
use Rattle.mi_environment.proofs.write.plan_write_environment.Goals as goal

pub returns-clause-phase : goal.returns-clause-phase
returns-clause-phase g c = λ held files w asked at.
    let rows = c.as_slice.result.now in
    let these : map as_numbered rows ≡ rows_that (λ (r : EnvironmentRow). r.environment) (λ (r : EnvironmentRow). r.component) (comes w) w.given.rows.environment = ap (map as_numbered) c.as_slice.ensures.value ∙ c.in_ok-rows.ensures w asked in
    phase_of held files c.args.plan.now c.write_rows.new.plan write_environment_strings w (map (λ r. write_string w (as_numbered r)) rows) c.write_rows.result (write_effects w rows these) at (c.write_rows.ensures.rows held files w asked.lookups)
