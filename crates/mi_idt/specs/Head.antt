-- Line 3: an optional code page, the name of the table, and the key columns.
use Rattle.std.specs.Prelude.{ℕ, ◌==◌, ◌||◌, ◌&&◌, not, min, Bool, if◌then◌else◌, List, [], ◌∷◌, ◌++◌, length, Option, Some, None, unwrap_or}
use Rattle.std.specs.List.{list_all, list_any}
use Rattle.mi_text.specs.declared.answers.IdtFault.{IdtFault}
use Rattle.mi_text.specs.declared.answers.IdtFault.TheVariants.{CodePage, KeyColumn}
use Rattle.mi_idt.specs.Fields.{is_digit, number_on}
use Rattle.mi_idt.specs.Columns.{◌or_else◌, place_of}

-- a first field of digits alone is a code page
abbrev pub is_numeral : List ℕ → Bool
is_numeral field = not (length field == 0) && list_all is_digit field

abbrev pub page_in : List ℕ → Option ℕ
page_in field = if is_numeral field then Some (number_on 0 field) else None

abbrev pub page_of : List (List ℕ) → Option ℕ
page_of [] = None
page_of (f ∷ fs) = page_in f

abbrev pub after_page : List (List ℕ) → List (List ℕ)
after_page [] = []
after_page (f ∷ fs) = if is_numeral f then fs else f ∷ fs

abbrev pub name_in : List (List ℕ) → List ℕ
name_in [] = []
name_in (name ∷ keys) = name

abbrev pub keys_in : List (List ℕ) → List (List ℕ)
keys_in [] = []
keys_in (name ∷ keys) = keys

-- ---- the first fault

abbrev pub is_known_page : ℕ → Bool
is_known_page n = (n == 0) || (n == 1252) || (n == 65001)

-- the greatest u32 stands for any larger number
abbrev pub page_fault : Option ℕ → Option IdtFault
page_fault None = None
page_fault (Some n) = if is_known_page n then None else Some (CodePage (min n 4294967295))

abbrev pub is_seen : ℕ → List ℕ → Bool
is_seen i places = list_any (λ j. j == i) places

-- a key column that is unknown, or among those before it
abbrev pub key_fault : List ℕ → List ℕ → Option ℕ → Option IdtFault
key_fault seen key None = Some (KeyColumn key)
key_fault seen key (Some i) = if is_seen i seen then Some (KeyColumn key) else None

abbrev pub keys_fault : List (List ℕ) → List ℕ → List (List ℕ) → Option IdtFault
keys_fault names seen [] = None
keys_fault names seen (k ∷ ks) = key_fault seen k (place_of names k) or_else keys_fault names (seen ++ unwrap_or (place_of names k) 0 ∷ []) ks

-- of the name and the key columns; the empty text where there is none
abbrev pub named_fault : List (List ℕ) → List (List ℕ) → Option IdtFault
named_fault names [] = Some (KeyColumn [])
named_fault names (name ∷ []) = Some (KeyColumn [])
named_fault names (name ∷ k ∷ ks) = keys_fault names [] (k ∷ ks)

abbrev pub head_fault : List (List ℕ) → List (List ℕ) → Option IdtFault
head_fault names fields = page_fault (page_of fields) or_else named_fault names (after_page fields)

-- ---- the keys

abbrev pub places_of : List (List ℕ) → List (List ℕ) → List ℕ
places_of names [] = []
places_of names (k ∷ ks) = unwrap_or (place_of names k) 0 ∷ places_of names ks
