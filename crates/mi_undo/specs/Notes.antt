-- Notes of names with their old bytes, and how an entry spells them (this project's own).
use Rattle.std.specs.Prelude.{ℕ, zero, suc, Bool, true, not, ◌&&◌, nat_le, List, [], ◌∷◌, ◌++◌, length, take, drop, map, Option, None, Some, is_none, if◌then◌else◌}
use Rattle.std.specs.Option.{option_map, option_and_then}
use Rattle.std.specs.Int.{w32, w64, to_be_bytes, from_be_bytes}
use Rattle.std.specs.Str.{is_utf8}
use Rattle.std.specs.FinMap.{get}
use Rattle.mi_text.specs.Maps.{same_name, is_among}
use Rattle.mi_volume.specs.Maps.{Map}
use Rattle.mi_undo.specs.Names.{is_inside}

-- a name, with its old bytes or absence
pub record Note : Type 0 where
  pub name : List ℕ
  pub was : Option (List ℕ)

-- what the first note of a name says
abbrev pub note_of : List Note → List ℕ → Option (Option (List ℕ))
note_of [] q = None
note_of (n ∷ ns) q = if same_name q n.name then Some n.was else note_of ns q

-- the notes of all entries
abbrev pub all_notes : List (List Note) → List Note
all_notes [] = []
all_notes (ns ∷ parts) = ns ++ all_notes parts

-- the notes of these names, with what the map holds there
abbrev pub notes_for : Map → List (List ℕ) → List Note
notes_for m names = map (λ n. record { name = n; was = get m n }) names

-- those of the names that aren't among these yet, each once
abbrev pub new_names : List (List ℕ) → List (List ℕ) → List (List ℕ)
new_names seen [] = []
new_names seen (n ∷ names) = if is_among n seen then new_names seen names else n ∷ new_names (seen ++ n ∷ []) names

-- a text with its length in front of it
abbrev pub text : List ℕ → List ℕ
text t = to_be_bytes w32 (length t) ++ t

-- a note's bytes before the old bytes
abbrev pub head_bytes : List ℕ → Option ℕ → List ℕ
head_bytes name None = 0 ∷ text name
head_bytes name (Some n) = 1 ∷ text name ++ to_be_bytes w64 n

abbrev pub old_bytes : Option (List ℕ) → List ℕ
old_bytes None = []
old_bytes (Some bytes) = bytes

-- a note's bytes
unfoldable pub spelled_note : Note → List ℕ
spelled_note n = head_bytes n.name (option_map length n.was) ++ old_bytes n.was

-- an entry's bytes
unfoldable pub spelled : List Note → List ℕ
spelled [] = []
spelled (n ∷ ns) = spelled_note n ++ spelled ns

-- the first so many bytes, and the rest
abbrev pub split_at : ℕ → List ℕ → Option (List ℕ × List ℕ)
split_at n bytes = if nat_le n (length bytes) then Some (take n bytes, drop n bytes) else None

-- a text with its length in front of it, and the rest
unfoldable pub text_at : List ℕ → Option (List ℕ × List ℕ)
text_at bytes = option_and_then (λ p. split_at (from_be_bytes w32 p.0) p.1) (split_at 4 bytes)

-- bytes with their length in front of them, and the rest
unfoldable pub blob_at : List ℕ → Option (List ℕ × List ℕ)
blob_at bytes = option_and_then (λ p. split_at (from_be_bytes w64 p.0) p.1) (split_at 8 bytes)

-- the first note of these bytes, and the rest
unfoldable pub note_at : List ℕ → Option (Note × List ℕ)
note_at [] = None
note_at (zero ∷ rest) = option_map (λ p. (record { name = p.0; was = None }, p.1)) (text_at rest)
note_at (suc zero ∷ rest) = option_and_then (λ p. option_map (λ b. (record { name = p.0; was = Some b.0 }, b.1)) (blob_at p.1)) (text_at rest)
note_at (suc (suc tag) ∷ rest) = None

unfoldable pub notes_within : ℕ → List ℕ → Option (List Note)
notes_within fuel [] = Some []
notes_within zero (b ∷ bytes) = None
notes_within (suc fuel) (b ∷ bytes) = option_and_then (λ p. option_map (λ ns. p.0 ∷ ns) (notes_within fuel p.1)) (note_at (b ∷ bytes))

-- what an entry's bytes note, where they are spelled
unfoldable pub notes_of : List ℕ → Option (List Note)
notes_of bytes = notes_within (length bytes) bytes

-- a note can be spelled, and its name isn't inside the area
abbrev pub is_note : Note → Bool
is_note n = nat_le 1 (length n.name) && nat_le (length n.name) 1024 && is_utf8 n.name && not (is_inside n.name)

-- none of the names is noted before, or twice
abbrev pub are_new : List Note → List Note → Bool
are_new seen [] = true
are_new seen (n ∷ ns) = (is_note n && is_none (note_of seen n.name)) && are_new (seen ++ n ∷ []) ns
