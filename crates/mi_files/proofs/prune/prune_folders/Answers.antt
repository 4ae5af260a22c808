-- Over the places that are protected.
use Rattle.mi_files.proofs.FolderLemmas.{pruned}
use Rattle.mi_files.proofs.prune.prune_folders.Goals as goal

pub returns-in_ok-prune-in-Ok-clause-made : goal.returns-in_ok-prune-in-Ok-clause-made
returns-in_ok-prune-in-Ok-clause-made g c = λ held files w folders asked touched.
    pruned held files c.args.plan.now c.prune.new.self w folders c.args.touched.items c.in-Ok.protected.items touched (c.in-Ok.ensures w asked) (c.in_ok-prune-in-Ok.ensures.makes held files)
