-- How often a device has failed.
use Rattle.std.specs.Prelude.{ℕ, ◌-◌, ◌^◌, ◌<◌}

-- the count has risen, or stands at the last value of its counter
pub record Rose (old new : ℕ) : Type 0 where
  pub rose : new < 2 ^ 64 - 1 → old < new
