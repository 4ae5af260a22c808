-- Rows by their keys, as the program sorts them. (Database Tables.)
use Rattle.std.specs.Prelude.{◌≡◌, ℕ, ◌+◌, List, map, drop, Contains}
use Rattle.std.specs.List.{AllByRecursion}
use denote.Ref.{Bor}
use Rattle.std.specs.declared.cmp.Ordering.{Ordering}
use Rattle.std.specs.FinMap.{entries, from_entries}
use Rattle.mi_text.specs.Maps.{Name, Map, name_cmp}
use Rattle.mi_schema.specs.RowsOf.{behind}
use Rattle.mi_schema.specs.TableRows.{Numbered, numbered_from}

-- a key, and a row behind its number
abbrev pub Place : Type 0 → Type 0
Place R = Bor Name × (ℕ × Bor R)

-- keys in their order
abbrev pub key_cmp : Bor Name → Bor Name → Ordering
key_cmp a b = name_cmp a.now b.now

abbrev pub as_numbered : {R : Type 0} → ℕ × Bor R → Numbered R
as_numbered r = record { number = r.0; row = r.1.now }

abbrev pub as_entry : {R : Type 0} → Place R → Name × Numbered R
as_entry e = (e.0.now, as_numbered e.1)

-- the rows from this place on, by their keys
abbrev pub keyed_from : {R : Type 0} → (R → Name) → List R → ℕ → List (Name × Numbered R)
keyed_from {R} key rows place = map (λ (r : Numbered R). (key r.row, r)) (numbered_from (place + 1) (drop place rows))

abbrev pub by_keys : {R : Type 0} → List (Name × Numbered R) → Map (Numbered R)
by_keys es = from_entries es

-- these are those rows in the order of their keys
abbrev pub AreOrdered : {R : Type 0} → (R → Name) → List R → ℕ → List (Place R) → Type 0
AreOrdered key rows place es = map as_entry es ≡ entries (by_keys (keyed_from key rows place))

-- each is a row of the table
abbrev pub AreRowsOf : {R : Type 0} → List (Name × R) → List (Place R) → Type 0
AreRowsOf rows es = AllByRecursion (λ e. Contains (behind rows) e.1.1.now) es
