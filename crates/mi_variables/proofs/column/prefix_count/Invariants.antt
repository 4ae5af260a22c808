use Rattle.std.proofs.Common.{◌≡◌, ◌+◌, drop}
use Rattle.std.specs.Prelude.{codes}
use Rattle.std.specs.List.{prefix_len}
use Rattle.mi_model.specs.EnvironmentRows.{is_any_of}
use Rattle.mi_variables.proofs.column.prefix_count.Given as goal

abbrev pub invariant-loop-byte : goal.invariant-loop-byte
invariant-loop-byte l = record {
  place : l.count ≡ l.byte-index;
  rest : l.count + prefix_len (is_any_of (codes "=+-!*")) (drop l.byte-index l.name) ≡ prefix_len (is_any_of (codes "=+-!*")) l.name;
}
