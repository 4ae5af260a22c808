-- The rows of the phase, carried out.
use Rattle.std.proofs.Common.{◌≡◌, map, ap, ◌∙◌}
use Rattle.mi_model.specs.RemoveEnvironmentStrings.{removing_rows, remove_string, remove_environment_strings}
use Rattle.mi_records.specs.Order.{as_numbered}
use Rattle.mi_records.proofs.PhaseLemmas.{phase_of}
use Rattle.mi_environment.proofs.TakeLemmas.{remove_effects}
use Rattle.mi_environment.proofs.remove.plan_remove_environment.Goals as goal

pub returns-clause-phase : goal.returns-clause-phase
returns-clause-phase g c = λ held files w asked at.
    let rows = c.as_slice.result.now in
    let these : map as_numbered rows ≡ removing_rows w = ap (map as_numbered) c.as_slice.ensures.value ∙ c.in_ok-rows.ensures w asked in
    phase_of held files c.args.plan.now c.remove_rows.new.plan remove_environment_strings w (map (λ r. remove_string w (as_numbered r)) rows) c.remove_rows.result (remove_effects w rows these) at (c.remove_rows.ensures.rows held files w asked (c.in_ok-guards.ensures w asked))
