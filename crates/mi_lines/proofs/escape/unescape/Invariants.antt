use Rattle.std.proofs.Common.{◌≡◌, ◌++◌, length}
use Rattle.mi_lines.specs.Escapes.{unescaped}
use Rattle.mi_lines.proofs.escape.unescape.Given as goal

abbrev pub invariant-loop-first : goal.invariant-loop-first
invariant-loop-first l = unescaped l.text ≡ l.bytes.items ++ unescaped l.left

abbrev pub decreases-loop-first : goal.decreases-loop-first
decreases-loop-first l = length l.left
