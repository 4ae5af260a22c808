use Rattle.std.proofs.Common.{◌≡◌, take}
use Rattle.std.specs.Prelude.{filter}
use Rattle.mi_model.specs.Prune.{key_seat}
use Rattle.mi_records.specs.Removing.{is_loose}
use Rattle.mi_records.proofs.clear.loose_keys.Given as goal

abbrev pub invariant-loop-name : goal.invariant-loop-name
invariant-loop-name l = l.loose.items ≡ filter (λ q. is_loose l.kept (key_seat q)) (take l.name-index l.names)
