-- Words that the lemmas share.
use Rattle.std.specs.Prelude.{◌≡◌, ℕ, Bool, true, false, List, [], ◌∷◌, Option, None, Result, Ok, Err}
use Rattle.std.specs.List.{list_all}
use Rattle.mi_cond.specs.Place.{IsRead, IsPlace}
use Rattle.mi_cond.specs.Tree.{Tree}
use Rattle.mi_rows.specs.declared.column.Kind.{Kind}
use Rattle.mi_rows.specs.declared.column.Kind.TheVariants as kind
use Rattle.mi_rows.specs.Columns.{Column, Table}
use Rattle.mi_rows.specs.Rows.{table_fault, table_rows}
use Rattle.mi_rows.specs.Values.{all_suit, key_cells, Row}

-- the rows of a table in some file that has no fault, or in none
abbrev pub AreRowsOf : Table → List Row → Type 0
AreRowsOf t rows = (file : Option (List ℕ)) × ((table_fault t file ≡ None) × (table_rows t file ≡ rows))

-- the condition that a text reads as, or the place from which none goes on
abbrev pub IsCondition : Result Tree ℕ → List ℕ → Type 0
IsCondition (Ok tree) text = IsRead text tree
IsCondition (Err place) text = IsPlace text place

abbrev pub each_suits : List Column → List Row → Bool
each_suits cs rows = list_all (all_suit cs) rows

-- none of these rows has the key of this one
abbrev pub IsNewKey : List Column → Row → List Row → Type 0
IsNewKey cs row [] = Unit {0}
IsNewKey cs row (r ∷ rows) = (key_cells cs row ≡ key_cells cs r → ⊥) × IsNewKey cs row rows

-- no two rows have one key
abbrev pub KeysDiffer : List Column → List Row → Type 0
KeysDiffer cs [] = Unit {0}
KeysDiffer cs (row ∷ rows) = IsNewKey cs row rows × KeysDiffer cs rows

-- values of this kind have a text
abbrev pub has_text : Kind → Bool
has_text kind.Integer = false
has_text kind.Code = false
has_text other = true
