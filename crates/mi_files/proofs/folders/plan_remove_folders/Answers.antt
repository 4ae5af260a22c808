-- One row, which prunes.
use Rattle.std.proofs.Common.{[], ◌∷◌, map, ap, ◌∙◌}
use Rattle.std.specs.Prelude.{Ok}
use Rattle.std.specs.List.{filter_map}
use Rattle.mi_model.specs.Folders.{folder_of_row, remove_folders}
use Rattle.mi_model.specs.Prune.{prune_folders}
use Rattle.mi_records.specs.Order.{as_numbered}
use Rattle.mi_records.proofs.PhaseLemmas.{phase_of}
use Rattle.mi_files.proofs.FolderLemmas.{remove_effect, one_made}
use Rattle.mi_files.proofs.folders.plan_remove_folders.Goals as goal

pub returns-clause-phase : goal.returns-clause-phase
returns-clause-phase g c = λ held files w asked at.
    let rows = c.as_slice.result.now in
    let folders = filter_map (λ r. folder_of_row w (as_numbered r)) rows in
    phase_of held files c.args.plan.now c.prune_folders.new.plan remove_folders w (prune_folders w folders ∷ []) {A = Unit {0}} (Ok tt)
    (remove_effect w rows (ap (map as_numbered) c.as_slice.ensures.value ∙ c.in_ok-rows.ensures w asked)) at
    (one_made held files c.args.plan.now c.prune_folders.new.plan (prune_folders w folders) (c.in_ok-prune_folders.ensures.made held files w folders asked (c.in_ok-touched.ensures w asked)))
