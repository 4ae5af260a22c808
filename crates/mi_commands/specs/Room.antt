-- Whether the scripts of a plan have room. (This project's own.)
use Rattle.std.specs.Prelude.{◌≡◌, ℕ, ◌+◌, ◌-◌, ◌^◌, ◌<◌, min, List, map, Option, None, Some, IfSome, option_map}
use Rattle.mi_volume.specs.Maps.{Map, Fits, size}
use Rattle.mi_script.specs.declared.rec.Rec.{Rec}
use Rattle.mi_model.specs.Plans.{Planned}
use Rattle.mi_model.specs.StatedSizes.{stated_cost}
use Rattle.mi_commands.specs.declared.room.Lack.{Lack}

-- the records of each segment
abbrev pub scripts_in : List Planned → List (List Rec)
scripts_in plans = map (λ (p : Planned). p.records) plans

-- a cost as it is told: the greatest count where it is more than that
abbrev pub counted : ℕ → ℕ
counted cost = min cost (2 ^ 64 - 1)

-- so much is free beside what is held, which fits; a told capacity is below the greatest count
pub record IsFreeRoom (capacity : Option ℕ) (held : Map) (free : ℕ) : Type 0 where
  pub is : Some free ≡ option_map (λ c. c - size held) capacity
  pub fits : Fits capacity (size held)
  pub small : IfSome capacity (λ c. c < 2 ^ 64 - 1)

-- More is needed than is free, and these are the two numbers.
pub record IsLack (capacity : Option ℕ) (held : Map) (scripts : List (List Rec)) (lack : Lack) : Type 0 where
  pub need : lack.need ≡ counted (stated_cost held scripts)
  pub free : Some lack.free ≡ option_map (λ c. c - size held) capacity
  pub beyond : lack.free < lack.need

-- what is held and what the scripts cost beside it fit together, or what is lacking
abbrev pub Lacks : Option ℕ → Map → List (List Rec) → Option Lack → Type 0
Lacks capacity held scripts None = Fits capacity (size held + stated_cost held scripts)
Lacks capacity held scripts (Some lack) = IsLack capacity held scripts lack
