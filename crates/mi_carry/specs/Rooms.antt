-- Room for a walk that is carried out and gone back over. (This project's own.)
use Rattle.std.specs.Prelude.{◌≡◌, ℕ, ◌+◌, ◌≤◌, List, map, Result}
use Rattle.mi_volume.specs.Maps.{Map, Fits, size}
use Rattle.mi_volume.specs.State.{State, GoesOn}
use Rattle.mi_script.specs.declared.rec.Rec.{Rec}
use Rattle.mi_undo.specs.Stands.{outside}
use Rattle.mi_undo.specs.Room.{TakesAtMost, NeverShort}
use Rattle.mi_model.specs.Plans.{Planned}
use Rattle.mi_model.specs.StatedSizes.{stated_cost}
use Rattle.mi_carry.specs.declared.stop.Halt.{Halt}
use Rattle.mi_carry.specs.Halts.{IfBack}

-- the volume has room for what the scripts of the segments cost beside what it holds
abbrev pub HasRoom : State → List Planned → Type 0
HasRoom s segments = Fits s.capacity (size s.held + stated_cost s.held (map (λ (p : Planned). p.records) segments))

-- the records of each segment
abbrev pub scripts_of : List Planned → List (List Rec)
scripts_of segments = map (λ (p : Planned). p.records) segments

-- An area of F has noted nothing yet, and what the segments cost over F fits beside it, the area's marker with it.
pub record IsRoomy (s : State) (F : Map) (segments : List Planned) : Type 0 where
  pub takes : TakesAtMost 0 s
  pub outside : outside s.held ≡ F
  pub marker : 4 ≤ stated_cost F (scripts_of segments)
  pub fits : Fits s.capacity (size F + stated_cost F (scripts_of segments))

-- F and the area fit
pub record FitsBack (s : State) (F : Map) : Type 0 where
  pub n : ℕ
  pub takes : TakesAtMost n s
  pub fits : Fits s.capacity (size F + (4 + n))

-- Recovery of what a crash has left since the old state has room, and F and the area fit.
pub record StaysRoomy (old new : State) (F : Map) : Type 0 where
  pub goes : GoesOn old new (NeverShort old.capacity)
  pub back : FitsBack new F

-- the same after a walk, where it has to be gone back over
pub record EndsRoomy {T : Type 0} (old new : State) (F : Map) (result : Result T Halt) : Type 0 where
  pub goes : GoesOn old new (NeverShort old.capacity)
  pub back : IfBack result (FitsBack new F)
