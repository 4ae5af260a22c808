-- A volume that tells nothing of what it holds.
use Rattle.std.specs.Prelude.{ℕ, None}
use Rattle.std.specs.FinMap.{empty}
use Rattle.mi_volume.specs.State.{State}

-- only the count of faults is told
abbrev pub untold : ℕ → State
untold count = record {
  held = empty;
  dirty = λ q. ⊥;
  capacity = None;
  faults = count;
  moment = 0;
  left_since = λ t d. ⊥;
  only_now = λ d left. absurd left;
}
