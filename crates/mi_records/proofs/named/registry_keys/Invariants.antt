use Rattle.std.proofs.Common.{◌≡◌, map, take}
use Rattle.mi_model.specs.RegistryRows.{registry_place}
use Rattle.mi_model.specs.RemoveRegistryValues.{keys_named}
use Rattle.mi_records.specs.Order.{as_numbered}
use Rattle.mi_records.proofs.named.registry_keys.Given as goal

abbrev pub invariant-loop-row : goal.invariant-loop-row
invariant-loop-row g l = l.keys.items ≡ keys_named (registry_place (g.E.Env.lookups l.env)) (map as_numbered (take l.row-index l.rows))
