use Rattle.std.proofs.Common.{◌≡◌, map, take}
use Rattle.mi_dirs.proofs.index.folder_keys.Given as goal

abbrev pub invariant-loop-entry : goal.invariant-loop-entry
invariant-loop-entry l = map (λ k. k.now) l.keys.items ≡ map (λ r. r.0) (take l.entry-index l.folders)
