-- A count of faults.
use Rattle.std.specs.Prelude.{ℕ, ◌-◌, ◌^◌, ◌<◌, ◌≤◌}

-- the count has risen by a fault, or stands at the last value of its counter
pub record Counts (old new : ℕ) : Type 0 where
  pub rose : new < 2 ^ 64 - 1 → old < new
  pub later : old ≤ new
