-- Segments carried out one after the other over an open area.
use Rattle.std.proofs.Common.{◌≡◌, ℕ, ◌+◌, ◌≤◌, ◌<◌, List, length, take, get_or, Ok, Err, sym, ap, subst, ◌∙◌}
use Rattle.std.specs.List.{All}
use Rattle.std.proofs.lemmas.List.Sums.{fold_more}
use Rattle.mi_volume.specs.Maps.{Map}
use Rattle.mi_volume.specs.State.{State, Passes, GoesOn}
use Rattle.mi_volume.proofs.Moments.{joined, started}
use Rattle.mi_source.specs.Paths.{Files}
use Rattle.mi_script.specs.declared.rec.Rec.{Rec}
use Rattle.mi_script.specs.Scripts.{after_script}
use Rattle.mi_undo.specs.Stands.{StandsFor, outside}
use Rattle.mi_undo.specs.Area.{Works, volume, noted_names, entry_count, IsWorking}
use Rattle.mi_undo.specs.declared.kept.Kept.{Kept}
use Rattle.mi_undo.specs.declared.area.Open.{Open}
use Rattle.mi_undo.proofs.AreaLemmas.{works_go_back}
use Rattle.mi_runner.specs.Answers.{Carries}
use Rattle.mi_runner.specs.declared.fault.RunFault.{RunFault}
use Rattle.mi_model.specs.Plans.{Planned}
use Rattle.mi_carry.specs.Segments.{after_segments}
use Rattle.mi_carry.specs.Halts.{GoesAlong}
use Rattle.mi_carry.specs.Rooms.{IsRoomy}
use Rattle.mi_carry.proofs.RoomLemmas.{RoomSoFar}

-- what a segment leaves
pub one_along : {T E : Type 0} (s t : State) (kept : Kept) (F : Map) (rs : List Rec) (x : T) → Carries {T = T} s t kept F rs (Ok x) → GoesAlong {T = T} {E = E} s t kept F (Ok x)
one_along s t kept F rs x c = record { goes = c.goes; works = c.works; can_go_back = c.can_go_back }

pub failed_along : {T U E : Type 0} (s t : State) (kept : Kept) (F : Map) (rs : List Rec) (f : RunFault) (e : E) → Carries {T = U} s t kept F rs (Err f) → GoesAlong {T = T} s t kept F (Err e)
failed_along s t kept F rs f e c = record { goes = c.goes; works = tt; can_go_back = c.can_go_back }

-- where nothing was done
pub still_along : {T E : Type 0} (s : State) (kept : Kept) (F : Map) (e : E) → Works s kept F → GoesAlong {T = T} s s kept F (Err e)
still_along s kept F e w = record { goes = started s (StandsFor F); works = tt; can_go_back = works_go_back s kept F w }

-- the first segments are carried out
module _ {V S : Type 0} (told : Type 0) (state : V → State) (source_told : Type 0) (files : S → Files) (faults : S → ℕ) (old new : Open V Kept) (src src' : S) where
  pub record PartsSoFar (parts front : List Planned) (n : ℕ) : Type 0 where
    pub reference : new.vol.ghost_name ≡ old.vol.ghost_name
    pub working : IsWorking new
    pub entries : entry_count new ≤ entry_count old + n
    pub goes : told → (F : Map) → Works (state (volume old)) old.kept F → GoesOn (state (volume old)) (state (volume new)) (StandsFor F) × Works (state (volume new)) new.kept F
    pub map : told → source_told → (F : Map) → Works (state (volume old)) old.kept F → outside (state (volume new)).held ≡ after_segments (files src) (outside (state (volume old)).held) front
    pub room : told → (F : Map) → Works (state (volume old)) old.kept F → IsRoomy (state (volume old)) F parts → RoomSoFar (state (volume old)) (state (volume new)) F (noted_names new) front
    pub passes : Passes (state (volume old)) (state (volume new))
    pub stays : files src' ≡ files src
    pub counts : faults src ≤ faults src'

-- what holds of each segment holds of this one
pub at_part : (P : Planned → Type 0) (parts : List Planned) (k : ℕ) (p : Planned) → All P parts → k < length parts → p ≡ get_or parts k p → P p
at_part P parts k p all below is = subst P (sym is) (all k p below)

-- one more
pub more_map : (files files' : Files) (h m k : Map) (parts : List Planned) (i : ℕ) (p : Planned) → files' ≡ files → i < length parts → p ≡ get_or parts i p → m ≡ after_segments files h (take i parts) → k ≡ after_script files' m p.records → k ≡ after_segments files h (take (i + 1) parts)
more_map files files' h m k parts i p same_files below is so_far more =
    more ∙ ap (λ (x : Files). after_script x m p.records) same_files ∙ ap (λ (d : Map). after_script files d p.records) so_far
    ∙ ap (λ (x : Planned). after_script files (after_segments files h (take i parts)) x.records) is
    ∙ sym (fold_more (λ (d : Map) (s : Planned). after_script files d s.records) h parts i p below)

-- behind the first segments, one that failed
pub then_failed : {T U E G : Type 0} (s t u : State) (kept : Kept) (F : Map) (e : E) (e' : G) → GoesOn s t (StandsFor F) → GoesAlong {T = T} t u kept F (Err e) → GoesAlong {T = U} s u kept F (Err e')
then_failed s t u kept F e e' first second = record { goes = joined s t u (StandsFor F) first second.goes; works = tt; can_go_back = second.can_go_back }

pub then_one : {T E : Type 0} (s t u : State) (kept : Kept) (F : Map) (x : T) → GoesOn s t (StandsFor F) → GoesAlong {T = T} {E = E} t u kept F (Ok x) → GoesOn s u (StandsFor F) × Works u kept F
then_one s t u kept F x first second = (joined s t u (StandsFor F) first second.goes, second.works)

pub all_along : {T E : Type 0} (s t : State) (kept : Kept) (F : Map) (x : T) → GoesOn s t (StandsFor F) × Works t kept F → GoesAlong {T = T} {E = E} s t kept F (Ok x)
all_along s t kept F x is = record { goes = is.0; works = is.1; can_go_back = works_go_back t kept F is.1 }
