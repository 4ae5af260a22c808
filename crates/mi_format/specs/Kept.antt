-- What the program keeps of an expanded text. Of one that has more bytes than a bound it keeps what its brackets name, its first
-- byte, and whether it may stand in the name of a property: that is all that a bracket with a long inside asks.
use Rattle.std.specs.Prelude.{◌≡◌, ℕ, nat_le, nat_lt, ◌≤◌, ◌==◌, ◌&&◌, ◌||◌, Bool, true, false, if◌then◌else◌, List, [], ◌∷◌, ◌++◌, length, map, Option, Some, None}
use Rattle.std.specs.List.{list_all}
use Rattle.std.specs.Option.{option_or}
use Rattle.mi_text.specs.Lookups.{Lookups}
use Rattle.mi_text.specs.PropertyNames.{begins_name, continues_name}
use Rattle.mi_format.specs.declared.part.Look.{Look}
use Rattle.mi_format.specs.declared.part.Held.{Held}
use Rattle.mi_format.specs.declared.part.Held.TheVariants.{Whole, Longer}
use Rattle.mi_format.specs.declared.part.Kept.{Kept}
use Rattle.mi_format.specs.declared.part.Room.{Room}
use Rattle.mi_format.specs.Bounds.{AreShort}
use Rattle.mi_format.specs.Scan.{Frame, State}
use Rattle.mi_format.specs.State.{Part, both}

abbrev pub first_byte : List ℕ → Option ℕ
first_byte [] = None
first_byte (b ∷ bs) = Some b

abbrev pub look_of : List ℕ → Look
look_of text = record { first = first_byte text; continues = list_all continues_name text }

-- a text and more
abbrev pub look_on : Look → Look → Look
look_on a b = record { first = option_or a.first b.first; continues = a.continues && b.continues }

-- a bracket round such a text of two bytes or more is looked up
abbrev pub names_by : Option ℕ → Bool → Bool
names_by None continues = false
names_by (Some b) continues = (b == 37) || (b == 35) || (b == 33) || (b == 36) || (begins_name b && continues)

abbrev pub is_name : Look → Bool
is_name l = names_by l.first l.continues

abbrev pub kept : ℕ → List ℕ → Held
kept most text = if nat_le (length text) most then Whole text else Longer (look_of text)

-- a text and more
abbrev pub grown : ℕ → Held → List ℕ → Held
grown most (Whole text) more = kept most (text ++ more)
grown most (Longer l) more = Longer (look_on l (look_of more))

-- two texts
abbrev pub joined : ℕ → Held → Held → Held
joined most text (Whole more) = grown most text more
joined most (Whole text) (Longer l) = Longer (look_on (look_of text) l)
joined most (Longer k) (Longer l) = Longer (look_on k l)

-- names of more bytes than are kept name nothing, where that is told
abbrev pub IsRoom : Lookups → Room → Type 0
IsRoom L room = room.names ≡ true → (1 ≤ room.most) × AreShort L room.most

abbrev pub kept_part : ℕ → Part → Kept
kept_part most p = record { text = kept most p.text; brackets = p.brackets }

abbrev pub kept_beside : ℕ → Kept → Part → Kept
kept_beside most k p = record { text = grown most k.text p.text; brackets = both k.brackets p.brackets }

abbrev pub kept_frame : ℕ → Frame Part → Frame Kept
kept_frame most f = record { kind = f.kind; before = kept_part most f.before }

abbrev pub kept_state : ℕ → State Part → State Kept
kept_state most s = record { frames = map (kept_frame most) s.frames; current = kept_part most s.current }

abbrev pub is_longer : ℕ → Held → Bool
is_longer limit (Whole text) = nat_lt limit (length text)
is_longer limit (Longer l) = true

-- the text, where it has no more bytes than the limit
abbrev pub in_limit : ℕ → List ℕ → Option (List ℕ)
in_limit limit text = if nat_le (length text) limit then Some text else None

-- no mark is open, and the text is longer than the limit
abbrev pub is_past : ℕ → State Kept → Bool
is_past limit s = of_frames s.frames
  where
    of_frames : List (Frame Kept) → Bool
    of_frames [] = is_longer limit s.current.text
    of_frames (f ∷ fs) = false
