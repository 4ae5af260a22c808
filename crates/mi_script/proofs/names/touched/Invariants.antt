use Rattle.std.proofs.Common.{◌≡◌}
use Rattle.mi_script.proofs.names.touched.Given as goal

-- the names that came so far
abbrev pub invariant-loop-name : goal.invariant-loop-name
invariant-loop-name l = l.listed.items ≡ l.yielded
