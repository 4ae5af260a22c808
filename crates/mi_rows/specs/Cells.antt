-- A value that isn't null.
use Rattle.std.specs.Prelude.{ℕ, ℤ, List}
use Rattle.mi_text.specs.declared.guid.Guid.{Guid}
use Rattle.mi_cond.specs.Tree.{Tree}

pub data Cell : Type 0 where
  Text : (text : List ℕ) → Cell
  Integer : (number : ℤ) → Cell
  Code : (code : Guid) → Cell
  -- a condition, and the text that reads as it
  Condition : (text : List ℕ) (tree : Tree) → Cell
