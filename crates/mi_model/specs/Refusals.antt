-- Refusals of rows. Rows are read in byte order of their keys, a row column by column; the first refusal is the answer. (This project's own.)
use Rattle.std.specs.Prelude.{ℕ, Bool, false, ◌||◌, nat_lt, if◌then◌else◌, List, [], ◌∷◌, length, Option, Some, None, Result, Ok, Err}
use Rattle.mi_text.specs.Lookups.{Lookups}
use Rattle.mi_base.specs.declared.entry.Entry.{Entry}
use Rattle.mi_base.specs.declared.entry.Entry.TheVariants as entry
use Rattle.mi_base.specs.declared.entry.RegValue.TheVariants as value
use Rattle.mi_base.specs.Spelling.{record_of}
use Rattle.mi_format.specs.Expansion.{expand_of, is_too_deep}
use Rattle.mi_model.specs.Texts.{Text}
use Rattle.mi_base.specs.declared.answers.Fault.{Fault}
use Rattle.mi_base.specs.declared.answers.Fault.TheVariants.{TooDeep, BadValue}

infixl 10 ◌>>=◌
abbrev pub ◌>>=◌ : {A B : Type 0} → Result A Fault → (A → Result B Fault) → Result B Fault
(Ok x) >>= f = f x
(Err fault) >>= f = Err fault

-- what each gives, or the first refusal
abbrev pub each : {A B : Type 0} → (A → Result B Fault) → List A → Result (List B) Fault
each f [] = Ok []
each f (x ∷ xs) = f x >>= λ y. each f xs >>= λ ys. Ok (y ∷ ys)

-- a column of formatted text, expanded (Formatted)
unfoldable pub expanded : Lookups → Text → ℕ → Text → Result Text Fault
expanded L table row text = if is_too_deep text then Err (TooDeep table row) else Ok (expand_of L text)

-- one that may be null, which is no text
abbrev pub expanded_or_empty : Lookups → Text → ℕ → Option Text → Result Text Fault
expanded_or_empty L table row None = Ok []
expanded_or_empty L table row (Some text) = expanded L table row text

-- a list of more items than a count can state
abbrev pub has_too_many : Entry → Bool
has_too_many (entry.Value key (value.List items)) = nat_lt 65535 (length items)
has_too_many other = false

-- what a row writes whose record is longer than 16,777,216 bytes, or whose list has more than 65,535 items
unfoldable pub size_fault : Text → ℕ → Entry → Option Fault
size_fault table row e = if nat_lt 16777216 (length (record_of e)) || has_too_many e then Some (BadValue table row) else None

-- this refusal, if there is one, and else what is behind it
abbrev pub unless : {A : Type 0} → Option Fault → Result A Fault → Result A Fault
unless None behind = behind
unless (Some fault) behind = Err fault
