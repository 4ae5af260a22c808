use Rattle.std.proofs.Common.{ap, ◌∙◌}
use Rattle.std.specs.List.{filter_map}
use Rattle.mi_world.specs.Systems.{pair_folder}
use Rattle.mi_world.proofs.system.system_folders.Goals as goal

pub returns : goal.returns
returns c = λ held files. c.in_ok-folders.ensures ∙ ap (filter_map pair_folder) (c.deref.ensures.value ∙ c.in_ok-pairs.ensures held files)
