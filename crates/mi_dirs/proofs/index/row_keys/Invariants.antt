use Rattle.std.proofs.Common.{◌≡◌, map, take}
use Rattle.mi_dirs.proofs.index.row_keys.Given as goal

abbrev pub invariant-loop-row : goal.invariant-loop-row
invariant-loop-row l = map (λ k. k.now) l.keys.items ≡ map (λ r. r.key) (take l.row-index l.rows)
