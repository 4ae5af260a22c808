-- The length that a record states of itself: where its last text ends, as the lengths and the counts in it say (this project's own).
use Rattle.std.specs.Prelude.{◌≡◌, ℕ, zero, suc, ◌+◌, ◌==◌, nat_lt, ◌||◌, if◌then◌else◌, List, [], ◌∷◌, length, take, drop, Option, Some, None, option_and_then}
use Rattle.std.specs.Int.{Width, w16, w32, byte_len, from_be_bytes}
use Rattle.std.specs.FinMap.{get}
use Rattle.mi_text.specs.Maps.{Name}
use Rattle.mi_volume.specs.Maps.{bytes_or_none}
use Rattle.mi_volume.specs.State.{State}
use Rattle.mi_image.specs.declared.window.Window.{Window}

infixl 10 ◌>>=◌
abbrev pub ◌>>=◌ : {A B : Type 0} → Option A → (A → Option B) → Option B
o >>= f = option_and_then f o

-- ---- numbers at a place

-- the first of these bytes
abbrev pub byte_of : List ℕ → Option ℕ
byte_of [] = None
byte_of (b ∷ bytes) = Some b

-- the number that these bytes are, where they are as many as it has
abbrev pub number_of : Width → List ℕ → Option ℕ
number_of w bytes = if length bytes == byte_len w then Some (from_be_bytes w bytes) else None

abbrev pub byte_in : List ℕ → ℕ → Option ℕ
byte_in bytes at = byte_of (take 1 (drop at bytes))

abbrev pub number_in : Width → List ℕ → ℕ → Option ℕ
number_in w bytes at = number_of w (take (byte_len w) (drop at bytes))

-- so many bytes behind a place, where a record of this size has them
abbrev pub further : ℕ → ℕ → ℕ → Option ℕ
further size at count = if nat_lt size (at + count) then None else Some (at + count)

-- ---- texts and lists

-- where the text ends that begins at this place: a length, and as many bytes
unfoldable pub text_end : List ℕ → ℕ → Option ℕ
text_end bytes at = do
  n ← number_in w32 bytes at
  further (length bytes) at (4 + n)

-- where so many texts end, of which the first begins at this place
unfoldable pub texts_end : List ℕ → ℕ → ℕ → Option ℕ
texts_end bytes at zero = Some at
texts_end bytes at (suc n) = option_and_then (λ end. texts_end bytes end n) (text_end bytes at)

-- where a count and as many texts end
unfoldable pub list_end : List ℕ → ℕ → Option ℕ
list_end bytes at = do
  count ← number_in w16 bytes at
  first ← further (length bytes) at 2
  texts_end bytes first count

-- ---- records

-- a value of this kind is a text, an expandable text, a number, bytes or a list
abbrev pub kind_payload_end : List ℕ → ℕ → ℕ → Option ℕ
kind_payload_end bytes at kind =
    if (kind == 1) || (kind == 2) || (kind == 4) then text_end bytes at
    else if kind == 3 then further (length bytes) at 4
    else if kind == 5 then list_end bytes at
    else None

unfoldable pub payload_end : List ℕ → ℕ → Option ℕ
payload_end bytes at = do
  kind ← byte_in bytes at
  first ← further (length bytes) at 1
  kind_payload_end bytes first kind

-- the shown name, and what the value is
unfoldable pub value_end : List ℕ → Option ℕ
value_end bytes = do
  shown ← text_end bytes 0
  payload_end bytes shown

-- four texts, the hot key, the icon, its index and how the window is shown, and the folder
unfoldable pub shortcut_end : List ℕ → Option ℕ
shortcut_end bytes = do
  description ← texts_end bytes 0 4
  hot_key ← further (length bytes) description 2
  icon ← text_end bytes hot_key
  show ← further (length bytes) icon 4
  text_end bytes show

-- the name, the version and the language, and the features
unfoldable pub product_end : List ℕ → Option ℕ
product_end bytes = do
  name ← text_end bytes 0
  language ← further (length bytes) name 10
  list_end bytes language

-- clients, folders, keys and properties of the system are one text, variables two
unfoldable pub kind_end : ℕ → List ℕ → Option ℕ
kind_end kind bytes =
    if (kind == 99) || (kind == 100) || (kind == 107) || (kind == 121) then text_end bytes 0
    else if kind == 110 then texts_end bytes 0 2
    else if kind == 112 then product_end bytes
    else if kind == 115 then shortcut_end bytes
    else if kind == 118 then value_end bytes
    else None

-- the length that a record of this name states, where it goes on for as long
abbrev pub stated_length : Name → List ℕ → Option ℕ
stated_length [] bytes = None
stated_length (kind ∷ rest) bytes = kind_end kind bytes

-- ---- a part of a record in memory

-- under this name a volume holds these bytes, and a window has those from its place on
pub record Shows (s : State) (name : Name) (w : Window) (whole : List ℕ) : Type 0 where
  pub held : bytes_or_none (get s.held name) ≡ whole
  pub long : length whole ≡ w.size
  pub part : w.bytes ≡ take 65536 (drop w.at whole)
