use Rattle.std.proofs.Common.{◌≡◌, ◌++◌, map, take}
use Rattle.mi_text.specs.Fold.{folded}
use Rattle.mi_files.proofs.prune.add_system_places.Given as goal

abbrev pub invariant-loop-folder : goal.invariant-loop-folder
invariant-loop-folder g l = l.places.items ≡ l.fn.places.items ++ map folded (take l.folder-index l.folders)
