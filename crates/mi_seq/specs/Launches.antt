-- The first launch condition that is false, as the program finds it. (LaunchCondition table.)
use Rattle.std.specs.Prelude.{ℕ, ◌+◌, Bool, true, ◌&&◌, List, [], ◌∷◌, drop, Option, Some, None, if◌then◌else◌}
use Rattle.std.specs.Ordering.{is_lt}
use Rattle.mi_text.specs.Maps.{Name, name_cmp}
use Rattle.mi_text.specs.Lookups.{Lookups}
use Rattle.mi_schema.specs.declared.typed_rows.LaunchConditionRow.{LaunchConditionRow}
use Rattle.mi_schema.specs.TableRows.{Numbered, numbered_from}
use Rattle.mi_model.specs.LaunchConditions.{is_false}
use Rattle.mi_seq.specs.declared.launch.Found.{Found}

-- a row behind its key, and its number in the file, from 1
abbrev pub Condition : Type 0
Condition = Numbered (Name × LaunchConditionRow)

abbrev pub found_as : Found → Condition
found_as f = record { number = f.number; row = (f.key.now, f.row.now) }

abbrev pub comes_before : Name → Option Condition → Bool
comes_before key None = true
comes_before key (Some found) = is_lt (name_cmp key found.row.0)

-- the first by its key of a row, if it is false, and one that was found
abbrev pub first_of : Lookups → Condition → Option Condition → Option Condition
first_of L c found = if is_false L c && comes_before c.row.0 found then Some c else found

abbrev pub first_among : Lookups → List Condition → Option Condition
first_among L [] = None
first_among L (c ∷ cs) = first_of L c (first_among L cs)

-- the first of those from this place on, from 0
abbrev pub found_from : Lookups → List (Name × LaunchConditionRow) → ℕ → Option Condition
found_from L rows place = first_among L (numbered_from (place + 1) (drop place rows))
