use Rattle.std.proofs.Common.{◌≡◌, map, take}
use Rattle.std.specs.BTreeMap.{get_by_text}
use Rattle.mi_text.specs.Maps.{Name, same_name}
use Rattle.mi_dirs.specs.Places.{first_row}
use Rattle.mi_dirs.proofs.index.index_of.Given as goal

abbrev pub invariant-loop-row : goal.invariant-loop-row
invariant-loop-row l = (q : Name) → get_by_text l.index q ≡ first_row (same_name q) (map (λ k. k.now) (take l.row l.keys))
