-- The rows of the phase, carried out.
use Rattle.std.proofs.Common.{map, ap, ◌∙◌}
use Rattle.std.specs.Prelude.{Ok}
use Rattle.mi_model.specs.Folders.{made_folder, create_folders}
use Rattle.mi_records.specs.Order.{as_numbered}
use Rattle.mi_records.proofs.PhaseLemmas.{phase_of}
use Rattle.mi_files.proofs.FolderLemmas.{create_effect}
use Rattle.mi_files.proofs.folders.plan_create_folders.Goals as goal

pub returns-clause-phase : goal.returns-clause-phase
returns-clause-phase g c = λ held files w asked at.
    let rows = c.as_slice.result.now in
    phase_of held files c.args.plan.now c.make_rows.new.plan create_folders w (map (λ r. made_folder w (as_numbered r)) rows) {A = Unit {0}} (Ok tt)
    (create_effect w rows (ap (map as_numbered) c.as_slice.ensures.value ∙ c.in_ok-rows.ensures w asked)) at (c.in_ok-make_rows.ensures.rows held files w asked)
