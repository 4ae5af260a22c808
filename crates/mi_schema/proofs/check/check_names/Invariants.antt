use Rattle.std.proofs.Common.{◌≡◌, map, drop}
use Rattle.mi_schema.specs.Checks.{first_fault, missing_property}
use Rattle.mi_schema.specs.RowsOf.{behind}
use Rattle.mi_schema.proofs.check.check_names.Given as goal

abbrev pub invariant-loop-name : goal.invariant-loop-name
invariant-loop-name l = first_fault (missing_property (behind l.properties.entries)) (map (λ n. n.now) (drop l.name-index l.names)) ≡ first_fault (missing_property (behind l.properties.entries)) (map (λ n. n.now) l.names)
