-- Lists of texts, which bytes 0 separate (Registry table, column Value: `[~]`).
use Rattle.std.specs.Prelude.{ℕ, ◌==◌, nat_eq, not, Bool, false, if◌then◌else◌, List, [], ◌∷◌, filter}
use Rattle.std.specs.Cmp.Lexicographic.{pointwise}
use Rattle.mi_text.specs.Maps.{is_among}

abbrev pub is_zero : ℕ → Bool
is_zero b = b == 0

-- a byte 0 at the front is a mark, and no separator
abbrev pub has_front : List ℕ → Bool
has_front [] = false
has_front (b ∷ bs) = is_zero b

abbrev pub without_front : List ℕ → List ℕ
without_front [] = []
without_front (b ∷ bs) = if is_zero b then bs else b ∷ bs

-- and so is one at the end
abbrev pub has_end : List ℕ → Bool
has_end [] = false
has_end (b ∷ []) = is_zero b
has_end (b ∷ c ∷ bs) = has_end (c ∷ bs)

abbrev pub without_end : List ℕ → List ℕ
without_end [] = []
without_end (b ∷ []) = if is_zero b then [] else b ∷ []
without_end (b ∷ c ∷ bs) = b ∷ without_end (c ∷ bs)

-- the items of an old list that equal none of the added ones
abbrev pub others : List (List ℕ) → List (List ℕ) → List (List ℕ)
others added old = filter (λ item. not (is_among item added)) old

-- whether two lists have the same items
abbrev pub same_items : List (List ℕ) → List (List ℕ) → Bool
same_items = pointwise (pointwise nat_eq)
