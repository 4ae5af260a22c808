-- Levels of features as the program keeps them. (Condition Table; Feature Table, Level.)
use Rattle.std.specs.Prelude.{◌≡◌, ℕ, ℤ, ◌&&◌, Bool, List, [], ◌∷◌, map, filter, fold, Option, Some, None}
use Rattle.std.specs.Int.{int_max}
use Rattle.std.specs.Ordering.{nat_cmp}
use Rattle.std.specs.Cmp.Lexicographic.{slice_cmp}
use Rattle.std.specs.BTreeMap.{BTreeMap, get_by}
use Rattle.std.specs.Borrow.{Bor}
use Rattle.mi_text.specs.Maps.{Name, same_name}
use Rattle.mi_text.specs.Lookups.{Lookups}
use Rattle.mi_schema.specs.declared.typed_rows.ConditionRow.{ConditionRow}
use Rattle.mi_model.specs.Conditions.{holds}

-- the greatest of the numbers, if there are any
abbrev pub greatest : List ℤ → Option ℤ
greatest [] = None
greatest (n ∷ ns) = Some (fold int_max n ns)

-- and of one number more
abbrev pub raised_by : ℤ → Option ℤ → ℤ
raised_by level None = level
raised_by level (Some old) = int_max old level

-- the rows of a feature that hold
abbrev pub is_of : Lookups → Name → ConditionRow → Bool
is_of L q c = same_name q c.feature && holds L c.condition

-- the levels that the conditions that hold give a feature
abbrev pub levels_in : Lookups → Name → List ConditionRow → List ℤ
levels_in L q rows = map (λ (c : ConditionRow). c.level) (filter (is_of L q) rows)

-- what is kept at a name
abbrev pub level_at : BTreeMap (Bor (List ℕ)) ℤ → Name → Option ℤ
level_at levels q = get_by (λ k. slice_cmp nat_cmp q k.now) levels

-- the greatest level of each feature's conditions that hold
abbrev pub AreLevels : Lookups → List ConditionRow → BTreeMap (Bor (List ℕ)) ℤ → Type 0
AreLevels L rows levels = (q : Name) → level_at levels q ≡ greatest (levels_in L q rows)
