-- The rows of the phase, carried out.
use Rattle.std.proofs.Common.{◌≡◌, map, ap, ◌∙◌}
use Rattle.mi_model.specs.WriteRegistryValues.{write_row, written_rows, write_registry_values}
use Rattle.mi_records.specs.Order.{as_numbered}
use Rattle.mi_records.proofs.PhaseLemmas.{phase_of, write_effect}
use Rattle.mi_records.proofs.phase.plan_write_registry.Goals as goal

pub returns-clause-phase : goal.returns-clause-phase
returns-clause-phase g c = λ held files w asked at.
    let rows = c.as_slice.result.now in
    let these : map as_numbered rows ≡ written_rows w = ap (map as_numbered) c.as_slice.ensures.value ∙ c.in_ok-rows.ensures.rows w asked in
    phase_of held files c.args.plan.now c.write_rows.new.plan write_registry_values w (map (λ r. write_row w (as_numbered r)) rows) c.write_rows.result (write_effect w rows these) at (c.write_rows.ensures.rows held files w asked.lookups)
