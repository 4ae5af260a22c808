-- Look-ups whose names are bounded.
use Rattle.std.specs.Prelude.{◌≡◌, ℕ, ◌≤◌, List, [], length}
use Rattle.mi_text.specs.Lookups.{Lookups}

-- a name of so many bytes or more is looked up as the empty text
pub record AreShort (L : Lookups) (bound : ℕ) : Type 0 where
  pub property : (name : List ℕ) → bound ≤ length name → L.property name ≡ []
  pub variable : (name : List ℕ) → bound ≤ length name → L.variable name ≡ []
  pub file : (key : List ℕ) → bound ≤ length key → L.file key ≡ []
  pub folder : (key : List ℕ) → bound ≤ length key → L.folder key ≡ []
