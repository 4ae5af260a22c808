use Rattle.std.proofs.Common.{◌≡◌, Bool, List, ℕ, take}
use Rattle.std.specs.List.{filter_map}
use Rattle.mi_records.specs.Removing.{Guards, guarded_place}
use Rattle.mi_records.proofs.clear.guarded_places.Given as goal

abbrev pub invariant-loop-name : goal.invariant-loop-name
invariant-loop-name l = (guarded : List ℕ → Bool) → Guards l.guards guarded → l.places.items ≡ filter_map (guarded_place guarded) (take l.name-index l.names)
