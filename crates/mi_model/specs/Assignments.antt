-- Words of the command line with their places, and those that set properties. (Windows Installer command-line options; Public Properties.
-- Which words are dropped is this project's own.)
use Rattle.std.specs.Prelude.{ℕ, suc, ◌==◌, not, ◌&&◌, ◌||◌, Bool, List, [], ◌∷◌, map, filter, length, drop, take_while, Result, Ok, Err, String, string_bytes, codes}
use Rattle.std.specs.Str.{bytes_eq}
use Rattle.std.specs.declared.alloc.Global.{Global}
use Rattle.mi_text.specs.Maps.{Name}
use Rattle.mi_text.specs.PropertyNames.{is_public_name}
use Rattle.mi_props.specs.Props.{Value}
use Rattle.mi_model.specs.Texts.{Text}

abbrev pub Assigned : Type 0
Assigned = List (Name × Value)

-- the words as texts
abbrev pub texts_of : List (String Global) → List Text
texts_of words = map string_bytes words

-- ---- words and their places, from 0

abbrev pub Placed : Type 0
Placed = ℕ × Text

abbrev pub placed_from : ℕ → List Text → List Placed
placed_from n [] = []
placed_from n (w ∷ words) = (n, w) ∷ placed_from (suc n) words

-- words without a meaning here are dropped
abbrev pub is_dropped : Text → Bool
is_dropped word = bytes_eq word (codes "/qn") || bytes_eq word (codes "/quiet") || bytes_eq word (codes "/norestart")

abbrev pub kept_words : List Text → List Placed
kept_words words = filter (λ w. not (is_dropped w.1)) (placed_from 0 words)

-- ---- NAME=VALUE

-- the text up to the first `=`, and what follows it
abbrev pub name_in : Text → Name
name_in word = take_while (λ b. not (b == 61)) word

-- a public property's name, `=`, and any value
abbrev pub is_assignment : Text → Bool
is_assignment word = is_public_name (name_in word) && not (length (name_in word) == length word)

abbrev pub assigned : Text → Name × Value
assigned word = (name_in word, drop (suc (length (name_in word))) word)

abbrev pub unless_other : List Placed → Assigned → Result Assigned ℕ
unless_other [] words = Ok words
unless_other (w ∷ others) words = Err w.0

-- all of them, or the place of the first that is none
abbrev pub assignments : List Placed → Result Assigned ℕ
assignments words = unless_other (filter (λ w. not (is_assignment w.1)) words) (map (λ (w : Placed). assigned w.1) words)

abbrev pub with_words : {A : Type 0} → Result Assigned ℕ → (Assigned → A) → Result A ℕ
with_words (Ok words) command = Ok (command words)
with_words (Err place) command = Err place
