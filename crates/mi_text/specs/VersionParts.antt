-- A version read part by part.
use Rattle.std.specs.Prelude.{◌≡◌, ℕ, List, [], ◌∷◌, Option, Some, None, option_map}
use Rattle.mi_text.specs.Version.{numbers_of, version_parts}

-- the parts of what is left of a text
abbrev pub parts_left : Option (List ℕ) → List (List ℕ)
parts_left None = []
parts_left (Some text) = version_parts text

-- n is the next number, 0 where nothing is left, and rest is left behind it
abbrev pub IsNextNumber : Option (List ℕ) → ℕ → Option (List ℕ) → Type 0
IsNextNumber None n rest = (n ≡ 0) × (rest ≡ None)
IsNextNumber (Some text) n rest = numbers_of (version_parts text) ≡ option_map (λ (ns : List ℕ). n ∷ ns) (numbers_of (parts_left rest))
