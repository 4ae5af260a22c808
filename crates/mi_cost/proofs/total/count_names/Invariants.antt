use Rattle.std.proofs.Common.{◌≡◌, ◌+◌, map, sum_by}
use Rattle.mi_cost.specs.Tallies.{counted, pair_of}
use Rattle.mi_cost.proofs.total.count_names.Given as goal

-- with what the rest of the names cost it is the whole
abbrev pub invariant-loop-name : goal.invariant-loop-name
invariant-loop-name l = l.sum + sum_by (counted l.image) (map pair_of l.name-iterator) ≡ sum_by (counted l.image) (map pair_of l.sizes.entries)
