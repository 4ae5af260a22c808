use Rattle.std.proofs.Common.{◌≡◌, ◌≤◌, length}
use Rattle.std.specs.Str.{chars, IsUtf8}
use Rattle.mi_format.specs.Escape.{behind_close}
use Rattle.mi_format.proofs.escape.behind_close.Given as goal

abbrev pub invariant-loop-first : goal.invariant-loop-first
invariant-loop-first l = IsUtf8 l.rest × (length l.rest ≤ length l.text) × (behind_close (chars l.rest) ≡ behind_close (chars l.text))

abbrev pub decreases-loop-first : goal.decreases-loop-first
decreases-loop-first l = length l.rest
