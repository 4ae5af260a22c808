-- Items that rows take out of lists. (Registry Table, column Value: `[~]`; Environment Table, column Value. That a leaving row takes its
-- own items out is this project's own.)
use Rattle.std.specs.Prelude.{ℕ, if◌then◌else◌, List, [], ◌∷◌, fold}
use Rattle.mi_text.specs.Maps.{same_name}

-- the list without its first item that equals this one
abbrev pub without_first : List ℕ → List (List ℕ) → List (List ℕ)
without_first item [] = []
without_first item (x ∷ xs) = if same_name item x then xs else x ∷ without_first item xs

-- the list without the first item that equals each of these, one after the other
abbrev pub without_items : List (List ℕ) → List (List ℕ) → List (List ℕ)
without_items items list = fold (λ rest item. without_first item rest) list items
