use Rattle.std.proofs.Common.{◌≡◌, length}
use Rattle.std.specs.Str.{IsUtf8}
use Rattle.mi_format.specs.Tokens.{tokens}
use Rattle.mi_format.specs.Scan.{start, scan_passes}
use Rattle.mi_format.specs.Bare.{bare, bare_state}
use Rattle.mi_format.proofs.depth.is_too_deep.Given as goal

abbrev pub invariant-loop-token : goal.invariant-loop-token
invariant-loop-token l = IsUtf8 l.rest × (scan_passes bare (bare_state l.marks.items) (tokens l.rest) ≡ scan_passes bare (start bare) (tokens l.text))

abbrev pub decreases-loop-token : goal.decreases-loop-token
decreases-loop-token l = length l.rest
