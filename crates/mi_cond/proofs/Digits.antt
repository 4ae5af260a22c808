-- Digits that have been read.
use Rattle.std.specs.Prelude.{◌≡◌, ◌≤◌, ℕ, true, List, take}
use Rattle.mi_cond.specs.Integer.{are_digits, decimal_of}

pub record IsNumber (text : List ℕ) (i size : ℕ) : Type 0 where
  pub digits : are_digits (take i text) ≡ true
  pub value : size ≡ decimal_of (take i text)
  pub small : size ≤ 2147483647
