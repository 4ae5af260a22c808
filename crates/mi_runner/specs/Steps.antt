-- What calls of an area and of a source keep, and what they leave by their answers. (This project's own.)
use Rattle.std.specs.Prelude.{◌≡◌, ◌≢◌, ℕ, ◌+◌, ◌≤◌, max, List, length, Result, OnOk, IfErr, IsErrOf}
use Rattle.std.specs.FinMap.{get, insert}
use Rattle.mi_text.specs.Maps.{Name}
use Rattle.mi_volume.specs.Maps.{Map, size, slot_size, Exceeds}
use Rattle.mi_volume.specs.State.{State, Passes, Rose}
use Rattle.mi_source.specs.Paths.{Files}
use Rattle.mi_source.specs.Counts as source
use Rattle.mi_script.specs.declared.rec.Rec.{Rec}
use Rattle.mi_undo.specs.Area.{volume, IsLive, IsWorking, Works}
use Rattle.mi_undo.specs.Answers.{Changes}
use Rattle.mi_undo.specs.Room.{TakesAtMost, KeepsRoom}
use Rattle.mi_undo.specs.declared.kept.Kept.{Kept}
use Rattle.mi_undo.specs.declared.area.Open.{Open}
use Rattle.mi_runner.specs.declared.fault.RunFault.{RunFault}
use Rattle.mi_runner.specs.declared.fault.RunFault.TheVariants.{Source}
use Rattle.mi_runner.specs.Faults.{IfDiffers}
use Rattle.mi_runner.specs.Records.{States}

-- The name and its bytes would have had at most this size, and the capacity would have been passed.
pub record Overflows (told : Type 0) (s : State) (name : Name) (n : ℕ) : Type 0 where
  pub is_told : told
  pub bytes : List ℕ
  pub small : length name + length bytes ≤ n
  pub passes : Exceeds s.capacity (size (insert s.held name bytes))

module _ {V : Type 0} (told : Type 0) (state : V → State) (old new : Open V Kept) where
  -- The area stands for what it stood for, and the names that aren't among these hold what they held.
  pub record KeepsOver (names : Name → Type 0) : Type 0 where
    pub reference : new.vol.ghost_name ≡ old.vol.ghost_name
    pub kept : new.kept ≡ old.kept
    pub changes : told → (F : Map) → Works (state (volume old)) old.kept F → Changes (state (volume old)) (state (volume new)) new.kept F
    pub room : told → (F : Map) (n : ℕ) → Works (state (volume old)) old.kept F → TakesAtMost n (state (volume old)) → KeepsRoom (state (volume old)) (state (volume new)) F n
    pub others : told → (q : Name) → ¬ names q → get (state (volume new)).held q ≡ get (state (volume old)).held q
    pub passes : Passes (state (volume old)) (state (volume new))

  -- After a call that gave the name bytes, with which it has at most this size.
  pub record Writes {T E : Type 0} (name : Name) (n : ℕ) (fault full : E) (result : Result T E) : Type 0 where
    pub keeps : KeepsOver (λ q. q ≡ name)
    pub live : IsLive new
    pub working : OnOk result (IsWorking new)
    pub rose : IsErrOf result fault → Rose (state (volume old)) (state (volume new))
    pub overflows : IsErrOf result full → Overflows told (state (volume old)) name n
    pub most : told → ¬ IsErrOf result fault → slot_size name (get (state (volume new)).held name) ≤ max (slot_size name (get (state (volume old)).held name)) n

-- After calls of a source: its content is what it was, and where they failed its count rose.
pub record Reads {S : Type 0} (files : S → Files) (faults : S → ℕ) {T : Type 0} (old new : S) (result : Result T RunFault) : Type 0 where
  pub stays : files new ≡ files old
  pub counts : faults old ≤ faults new
  pub rose : IsErrOf result Source → source.Rose (faults old) (faults new)

-- no length differs
abbrev pub NeverDiffers : {T : Type 0} → Result T RunFault → Type 0
NeverDiffers result = IfErr result (λ f. IfDiffers f (λ file stated found. ⊥))

-- A length that differs is that of a source that tells nothing, and is another than a record states.
pub record Differs {T : Type 0} (told : Type 0) (rs : List Rec) (result : Result T RunFault) : Type 0 where
  pub other : IfErr result (λ f. IfDiffers f (λ file stated found. found ≢ stated))
  pub untold : told → NeverDiffers result
  pub states : IfErr result (λ f. IfDiffers f (λ file stated found. States rs file stated))
