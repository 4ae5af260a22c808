-- What may be looked up, as functions of names.
use Rattle.std.specs.Prelude.{ℕ, ℤ, List}
use Rattle.mi_text.specs.declared.env.Sign.{Sign}

pub record Lookups : Type 0 where
  pub property : List ℕ → List ℕ
  pub variable : List ℕ → List ℕ
  pub file : List ℕ → List ℕ
  pub folder : List ℕ → List ℕ
  pub state : Sign → List ℕ → ℤ
