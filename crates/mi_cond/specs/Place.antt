-- Where a text stops being a condition.
use Rattle.std.specs.Prelude.{◌≡◌, ◌<◌, ◌≤◌, ◌++◌, ℕ, suc, length, take, List}
use Rattle.mi_cond.specs.declared.error.CondFault.{CondFault}
use Rattle.mi_cond.specs.declared.error.CondFault.TheVariants as fault
use Rattle.mi_cond.specs.declared.error.CondError.{CondError}
use Rattle.mi_cond.specs.declared.error.CondError.TheVariants as error
use Rattle.mi_cond.specs.Tree.{Tree}
use Rattle.mi_cond.specs.Grammar.{Reads}

-- a front of a text that begins a condition whose brackets and NOT nest to n at most
pub record Begins (n : ℕ) (front : List ℕ) : Type 0 where
  pub rest : List ℕ
  pub tree : Tree
  pub reads : Reads n (front ++ rest) tree

-- the text reads as this condition and no other
pub record IsRead (text : List ℕ) (t : Tree) : Type 0 where
  pub reads : Reads 64 text t
  pub only : (n : ℕ) (u : Tree) → Reads n text u → u ≡ t

-- the text is no condition that nests to 64, and its longest front that begins one has this length
pub record IsPlace (text : List ℕ) (place : ℕ) : Type 0 where
  pub none : (t : Tree) → Reads 64 text t → ⊥
  pub in_text : place ≤ length text
  pub begins : Begins 64 (take place text)
  pub longest : (k : ℕ) → k ≤ length text → Begins 64 (take k text) → k ≤ place

-- one byte more begins only conditions that nest deeper
pub record IsDeeper (text : List ℕ) (place : ℕ) : Type 0 where
  pub next : place < length text
  pub nesting : ℕ
  pub begins : Begins nesting (take (suc place) text)

abbrev pub IsConditionFault : CondFault → List ℕ → Type 0
IsConditionFault (fault.Syntax place) text = IsPlace text place × (IsDeeper text place → ⊥)
IsConditionFault (fault.TooDeep place) text = IsPlace text place × IsDeeper text place

-- why there is no condition
abbrev pub IsCause : CondError → List ℕ → Type 0
IsCause error.NoMemory text = Unit {0}
IsCause (error.Fault f) text = IsConditionFault f text
