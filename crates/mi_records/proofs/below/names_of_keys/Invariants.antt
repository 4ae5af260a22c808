use Rattle.std.proofs.Common.{◌≡◌, map, take}
use Rattle.mi_base.specs.Names.{key_name}
use Rattle.mi_records.proofs.below.names_of_keys.Given as goal

abbrev pub invariant-loop-key : goal.invariant-loop-key
invariant-loop-key l = l.names.items ≡ map (key_name l.root) (take l.key-index l.shown)
