use Rattle.std.proofs.Common.{◌≡◌, ◌++◌, map, take}
use Rattle.mi_model.specs.RegistryRows.{removal_place}
use Rattle.mi_model.specs.RemoveRegistryValues.{keys_named}
use Rattle.mi_records.specs.Order.{as_numbered}
use Rattle.mi_records.proofs.named.add_removal_keys.Given as goal

abbrev pub invariant-loop-row : goal.invariant-loop-row
invariant-loop-row g l = l.keys.items ≡ l.fn.keys.items ++ keys_named (removal_place (g.E.Env.lookups l.env)) (map as_numbered (take l.row-index l.rows))
