-- The first refusal of directories.
use Rattle.std.specs.Prelude.{◌≡◌, ℕ, suc, ◌+◌, min, not, Bool, false, List, [], ◌∷◌, find, Option, Some, None, option_map, is_none, Result, Ok, Err}
use Rattle.std.specs.Option.{option_or}
use Rattle.mi_dirs.specs.declared.fault.DirFault.{DirFault}
use Rattle.mi_dirs.specs.declared.fault.DirFault.TheVariants.{Cycle, BadPath}
use Rattle.mi_dirs.specs.Chains.{ends_in}
use Rattle.mi_dirs.specs.Places.{Place, bound, parent_at, target_at}

-- rows count from 1 in a refusal; the last number stands for every later row
abbrev pub row_number : ℕ → ℕ
row_number row = min (row + 1) 4294967295

-- the numbers of rows
abbrev pub numbers_from : {A : Type 0} → ℕ → List A → List ℕ
numbers_from row [] = []
numbers_from row (x ∷ xs) = row ∷ numbers_from (suc row) xs

abbrev pub numbers : {A : Type 0} → List A → List ℕ
numbers rows = numbers_from 0 rows

-- the chain of parents of a row ends
abbrev pub ends_at : List Place → ℕ → Bool
ends_at places row = ends_in (parent_at places) (bound places) row

-- the first row whose chain of parents doesn't end
abbrev pub cycle_fault : List Place → Option DirFault
cycle_fault places = option_map (λ row. Cycle (row_number row)) (find (λ row. not (ends_at places row)) (numbers places))

-- the first row whose target is refused
abbrev pub path_fault : List Place → Option DirFault
path_fault places = option_map (λ row. BadPath (row_number row)) (find (λ row. is_none (target_at places row)) (numbers places))

abbrev pub dir_fault : List Place → Option DirFault
dir_fault places = option_or (cycle_fault places) (path_fault places)

-- the directories, or their first refusal
abbrev pub judged : List Place → Option DirFault → Result (List Place) DirFault
judged places None = Ok places
judged places (Some fault) = Err fault

-- no number of steps up from this row is enough
abbrev pub IsEndless : List Place → ℕ → Type 0
IsEndless places row = (n : ℕ) → ends_in (parent_at places) n row ≡ false
