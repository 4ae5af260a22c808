-- What an open rollback area keeps.
use Rattle.std.specs.Prelude.{◌≡◌, ◌≢◌, ◌⊎◌, ℕ, suc, ◌≤◌, ◌<◌, true, false, List, [], ◌∷◌, ◌++◌, length, Option, None, Some}
use Rattle.std.specs.FinMap.{get}
use Rattle.mi_volume.specs.Maps.{Map}
use Rattle.mi_volume.specs.State.{State, Images, NothingDirty}
use Rattle.mi_undo.specs.Names.{marker, entry_name, gate_name, most_entries, is_inside}
use Rattle.mi_undo.specs.Notes.{Note, note_of, all_notes, spelled, notes_of, are_new}
use Rattle.mi_undo.specs.Stands.{StandsFor, is_one}

-- each map that a crash may leave now has P
abbrev pub Each : State → (Map → Type 0) → Type 0
Each s P = (d : Map) → Images s d → P d

-- the volume stands for F or for A
abbrev pub EitherFor : Map → Map → Map → Type 0
EitherFor F A d = StandsFor F d ⊎ StandsFor A d

-- Whatever stands at the loose names, the map stands for F.
abbrev pub Robust : Map → (List ℕ → Type 0) → Map → Type 0
Robust held loose F = (d : Map) → ((q : List ℕ) → ¬ loose q → get d q ≡ get held q) → StandsFor F d

-- there is a note of this name
abbrev pub IsNoted : List Note → List ℕ → Type 0
IsNoted ns q = (w : Option (List ℕ)) × (note_of ns q ≡ Some w)

-- the names that may hold anything
abbrev pub Loose : State → List Note → List ℕ → Type 0
Loose s ns q = s.dirty q ⊎ IsNoted ns q

-- After any call, a failed one too: whatever stands at the dirty and the noted names, the volume stands for F.
pub record Keeps (s : State) (F : Map) (ns : List Note) : Type 0 where
  pub robust : Robust s.held (Loose s ns) F
  pub marked : is_one (get s.held marker) ≡ true
  -- what isn't noted is as it was
  pub others : (q : List ℕ) → is_inside q ≡ false → note_of ns q ≡ None → get s.held q ≡ get F q
  -- what is noted was so
  pub olds : (q : List ℕ) (w : Option (List ℕ)) → note_of ns q ≡ Some w → get F q ≡ w
  -- no name inside the area is noted, and none is held in F
  pub outside : (q : List ℕ) → is_inside q ≡ true → note_of ns q ≡ None
  pub nothing_inside : (q : List ℕ) → is_inside q ≡ true → get F q ≡ None

-- the entries from k on spell these notes, behind open gates
abbrev pub Opened : Map → ℕ → List (List Note) → Type 0
Opened d k [] = Unit {0}
Opened d k (ns ∷ parts) =
    (is_one (get d (gate_name k)) ≡ true) × (get d (entry_name k) ≡ Some (spelled ns)) × Opened d (suc k) parts

-- each part is new behind those before it, and can be spelled
abbrev pub AreNew : List Note → List (List Note) → Type 0
AreNew seen [] = Unit {0}
AreNew seen (ns ∷ parts) = (are_new seen ns ≡ true) × (notes_of (spelled ns) ≡ Some ns) × AreNew (seen ++ ns) parts

-- Inside the area no other name is held than the marker and so many entries and gates.
abbrev pub OnlyBelow : Map → ℕ → Type 0
OnlyBelow d n = (q : List ℕ) → is_inside q ≡ true → q ≢ marker → (get d q ≡ None) ⊎ ((k : ℕ) × ((k < n) × ((q ≡ entry_name k) ⊎ (q ≡ gate_name k))))

-- The area stands on the disk with these entries.
pub record IsStanding (s : State) (F : Map) (parts : List (List Note)) : Type 0 where
  pub marked : is_one (get s.held marker) ≡ true
  pub opened : Opened s.held 0 parts
  pub are_new : AreNew [] parts
  pub few : length parts ≤ most_entries
  pub solid_marker : ¬ s.dirty marker
  pub solid_gates : (k : ℕ) → k < most_entries → ¬ s.dirty (gate_name k)
  pub solid_entries : (k : ℕ) → k < length parts → ¬ s.dirty (entry_name k)
  -- no further gate is there
  pub no_gate : (k : ℕ) → length parts ≤ k → k < most_entries → get s.held (gate_name k) ≡ None
  pub others : (q : List ℕ) → is_inside q ≡ false → note_of (all_notes parts) q ≡ None → get s.held q ≡ get F q
  pub solid_others : (q : List ℕ) → is_inside q ≡ false → note_of (all_notes parts) q ≡ None → ¬ s.dirty q
  pub olds : (q : List ℕ) (w : Option (List ℕ)) → note_of (all_notes parts) q ≡ Some w → get F q ≡ w
  pub outside : (q : List ℕ) → is_inside q ≡ true → note_of (all_notes parts) q ≡ None
  pub nothing_inside : (q : List ℕ) → is_inside q ≡ true → get F q ≡ None

-- The area stands on the disk with these entries, and no call has failed.
pub record IsOpen (s : State) (F : Map) (parts : List (List Note)) : Type 0 where
  pub standing : IsStanding s F parts
  -- no further entry is there, nor any other name
  pub no_entry : (k : ℕ) → length parts ≤ k → k < most_entries → get s.held (entry_name k) ≡ None
  pub only : OnlyBelow s.held (length parts)

-- no name inside the area is held, and nothing is dirty
pub record IsFree (s : State) : Type 0 where
  pub nothing_inside : (q : List ℕ) → is_inside q ≡ true → get s.held q ≡ None
  pub clean : NothingDirty s
