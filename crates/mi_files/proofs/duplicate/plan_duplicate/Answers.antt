-- The rows of the phase, carried out.
use Rattle.std.proofs.Common.{map, ap, ◌∙◌}
use Rattle.mi_model.specs.DuplicateFiles.{copied_row, duplicate_files}
use Rattle.mi_records.specs.Order.{as_numbered}
use Rattle.mi_records.proofs.PhaseLemmas.{phase_of}
use Rattle.mi_files.proofs.CopyLemmas.{copy_effect}
use Rattle.mi_files.proofs.duplicate.plan_duplicate.Goals as goal

pub returns-clause-phase : goal.returns-clause-phase
returns-clause-phase g c = λ held files w asked at there.
    let rows = c.as_slice.result.now in
    phase_of held files c.args.plan.now c.copy_rows.new.plan duplicate_files w (map (λ r. copied_row w (as_numbered r)) rows) c.copy_rows.result
    (copy_effect w rows (ap (map as_numbered) c.as_slice.ensures.value ∙ c.in_ok-rows.ensures w asked)) at (c.copy_rows.ensures.rows held files w asked there)
