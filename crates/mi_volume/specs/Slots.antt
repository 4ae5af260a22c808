-- How slots show what a volume in memory keeps.
use Rattle.std.specs.Prelude.{◌≡◌, ℕ, ◌≤◌, ◌==◌, Bool, true, false, List, [], ◌∷◌, Option, None, Some, is_some, if◌then◌else◌}
use Rattle.std.specs.Option.{option_map_or}
use Rattle.std.specs.FinMap.{get, empty, from_entries}
use Rattle.std.specs.Map.{lookup}
use Rattle.std.specs.BTreeMap.{is_at}
use Rattle.mi_text.specs.Maps as names
use Rattle.mi_text.specs.Maps.{Name, name_cmp, same_name, set_to}
use Rattle.mi_volume.specs.Maps.{Map}
use Rattle.mi_volume.specs.Kept.{Kept, chosen}
use Rattle.mi_volume.specs.declared.choice.Choice.{Choice}
use Rattle.mi_volume.specs.declared.before.Before.{Before}
use Rattle.mi_volume.specs.declared.before.Slot.{Slot}
use Rattle.mi_volume.specs.declared.before.Before.TheVariants.{Clean, Same, Absent, OneByte, Held}

-- what a name held at the last good sync, if it is dirty
abbrev pub was : Before → Option (List ℕ) → Option (Option (List ℕ))
was Clean now = None
was Same now = Some now
was Absent now = Some None
was (OneByte b) now = Some (Some (b ∷ []))
was (Held bytes) now = Some (Some bytes)

-- the map of the entries of a tree
abbrev pub map_of : {X : Type 0} → List (Name × X) → names.Map X
map_of es = from_entries es

-- what stands at a name in the entries of a tree
abbrev pub at_name : {X : Type 0} → List (Name × X) → Name → Option X
at_name es name = lookup (is_at (name_cmp name)) es

-- the dirty names
abbrev pub before_of : Map → List (Name × Before) → names.Map (Option (List ℕ))
before_of held [] = empty
before_of held (e ∷ es) = set_to (before_of held es) e.0 (was e.1 (get held e.0))

-- what a slot notes once so many good syncs were made: nothing, where it was written before the last one
abbrev pub now_of : ℕ → Slot → Before
now_of syncs slot = if slot.syncs == syncs then slot.note else Clean

-- a slot that notes nothing
abbrev pub clean_slot : Slot
clean_slot = record { note = Clean; syncs = 0 }

-- the slots with what they note then
abbrev pub notes_at : ℕ → List (Name × Slot) → List (Name × Before)
notes_at syncs [] = []
notes_at syncs (s ∷ ss) = (s.0, now_of syncs s.1) ∷ notes_at syncs ss

-- no slot was written later
abbrev pub AreWritten : ℕ → List (Name × Slot) → Type 0
AreWritten syncs slots = (q : Name) (s : Slot) → at_name slots q ≡ Some s → s.syncs ≤ syncs

-- what the two trees show
abbrev pub kept_of : List (Name × List ℕ) → List (Name × Before) → Kept
kept_of held slots = record { held = map_of held; before = before_of (map_of held) slots }

-- each held name has a slot
abbrev pub HaveSlots : List (Name × List ℕ) → List (Name × Before) → Type 0
HaveSlots held slots = (q : Name) → is_some (at_name held q) ≡ true → is_some (at_name slots q) ≡ true

-- one name stands at this now, or at nothing, and the others stay
abbrev pub Sets : {X : Type 0} → Name → Option X → List (Name × X) → List (Name × X) → Type 0
Sets name x old new = (q : Name) → at_name new q ≡ (if same_name q name then x else at_name old q)

-- a slot where what was held at the last good sync has to be noted, if it isn't yet
abbrev pub noted_as : Before → Before → Before
noted_as saved Clean = saved
noted_as saved Same = saved
noted_as saved Absent = Absent
noted_as saved (OneByte b) = OneByte b
noted_as saved (Held bytes) = Held bytes

-- whether a slot has to note what was held
abbrev pub is_unnoted : Before → Bool
is_unnoted Clean = true
is_unnoted Same = true
is_unnoted Absent = false
is_unnoted (OneByte b) = false
is_unnoted (Held bytes) = false

-- a slot that notes what was held
abbrev pub saved_as : Option (List ℕ) → Before
saved_as None = Absent
saved_as (Some bytes) = Held bytes

-- after a good sync the slots are clean, and held names keep theirs
pub record Cleans (held : List (Name × List ℕ)) (old new : List (Name × Before)) : Type 0 where
  pub clean : (q : Name) (b : Before) → at_name new q ≡ Some b → b ≡ Clean
  pub kept : (q : Name) → is_some (at_name held q) ≡ true → is_some (at_name old q) ≡ true → is_some (at_name new q) ≡ true

-- what a crash leaves at a name, by its slot
abbrev pub left_by : Choice → Option (List ℕ) → Before → Option (List ℕ)
left_by choice now slot = option_map_or (λ held. chosen choice held now) (was slot now) now
