use Rattle.std.proofs.Common.{◌≡◌, drop}
use Rattle.mi_model.specs.EnvironmentRows.{repeats}
use Rattle.mi_variables.proofs.column.repeats.Given as goal

abbrev pub invariant-loop-place : goal.invariant-loop-place
invariant-loop-place l = repeats (drop l.place l.bytes) ≡ repeats l.bytes
