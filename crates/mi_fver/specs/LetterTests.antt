-- The letters of a REINSTALLMODE (REINSTALLMODE property).
use Rattle.std.specs.Prelude.{ℕ, ◌==◌, Bool, List, codes}
use Rattle.std.specs.List.{list_any}

abbrev pub has_letter : List ℕ → ℕ → Bool
has_letter letters letter = list_any (λ b. b == letter) letters

abbrev pub is_letter : ℕ → Bool
is_letter letter = has_letter (codes "poedaumsv") letter
