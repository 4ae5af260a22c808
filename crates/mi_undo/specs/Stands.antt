-- What a map with a rollback area stands for (this project's own).
use Rattle.std.specs.Prelude.{◌≡◌, ℕ, zero, suc, Bool, true, false, not, List, [], ◌∷◌, ◌++◌, length, Option, None, Some, Result, Ok, Err, if◌then◌else◌}
use Rattle.std.specs.FinMap.{get, retain_keys}
use Rattle.mi_text.specs.Maps.{set_to}
use Rattle.mi_text.specs.declared.answers.Settled.{Settled}
use Rattle.mi_text.specs.declared.answers.Settled.TheVariants.{Clean, Undone}
use Rattle.mi_volume.specs.Maps.{Map}
use Rattle.mi_undo.specs.Names.{marker, entry_name, gate_name, most_entries, is_inside}
use Rattle.mi_undo.specs.Notes.{Note, notes_of, are_new}

-- a gate or the marker is open: it is exactly the byte 1
abbrev pub is_one : Option (List ℕ) → Bool
is_one None = false
is_one (Some []) = false
is_one (Some (suc zero ∷ [])) = true
is_one (Some (b ∷ bytes)) = false

-- notes, where none repeats these
abbrev pub only_new : List Note → Option (List Note) → Option (List Note)
only_new seen None = None
only_new seen (Some ns) = if are_new seen ns then Some ns else None

-- the notes of an entry, where it is there and spelled, and repeats none of these
unfoldable pub entry_notes : List Note → Option (List ℕ) → Option (List Note)
entry_notes seen None = None
entry_notes seen (Some bytes) = only_new seen (notes_of bytes)

abbrev pub or_bad : {A : Type 0} → Option (List Note) → List ℕ → (List Note → Result A (List ℕ)) → Result A (List ℕ)
or_bad None name next = Err name
or_bad (Some ns) name next = next ns

-- the notes that are read from entry k on, behind these; or the name of the first entry that is absent or not spelled
unfoldable pub read_from : Map → ℕ → ℕ → List Note → Result (List Note) (List ℕ)
read_from d k zero seen = Ok seen
read_from d k (suc fuel) seen =
    if is_one (get d (gate_name k))
    then or_bad (entry_notes seen (get d (entry_name k))) (entry_name k) (λ ns. read_from d (suc k) fuel (seen ++ ns))
    else Ok seen

-- the notes that are read, by entry and then by place
unfoldable pub noted : Map → Result (List Note) (List ℕ)
noted d = if is_one (get d marker) then read_from d 0 most_entries [] else Ok []

-- every noted name has its old bytes or absence
unfoldable pub put_over : List Note → Map → Map
put_over [] d = d
put_over (n ∷ ns) d = set_to (put_over ns d) n.name n.was

-- the names that aren't in the rollback area
unfoldable pub outside : Map → Map
outside d = retain_keys d (λ q. not (is_inside q))

-- the names that are in it
unfoldable pub area_of : Map → Map
area_of d = retain_keys d is_inside

abbrev pub back_by : Map → Result (List Note) (List ℕ) → Result Map (List ℕ)
back_by d (Ok ns) = Ok (outside (put_over ns d))
back_by d (Err name) = Err name

-- the map that it stands for, or the name of the first entry that is read and absent or not spelled
unfoldable pub stands : Map → Result Map (List ℕ)
stands d = back_by d (noted d)

-- it stands for this map
abbrev pub StandsFor : Map → Map → Type 0
StandsFor m d = stands d ≡ Ok m

abbrev pub count_of : Result (List Note) (List ℕ) → ℕ
count_of (Ok ns) = length ns
count_of (Err name) = 0

-- what settling it finds
unfoldable pub settled : Map → Settled
settled d = if is_one (get d marker) then Undone (count_of (noted d)) else Clean
