-- Which texts read as which condition (Conditional Statement Syntax; operators of one kind group from the left,
-- and brackets and NOT nest to a bound: both this project's own).
use Rattle.std.specs.Prelude.{◌≡◌, ℕ, zero, suc, IsTrue, ◌⊎◌, List, [], ◌∷◌, ◌++◌}
use Rattle.mi_cond.specs.declared.operand.Operator.{Operator}
use Rattle.mi_cond.specs.declared.operand.Comparison.{Comparison}
use Rattle.mi_cond.specs.declared.operand.Value.{Value}
use Rattle.mi_cond.specs.declared.token.Token.{Token}
use Rattle.mi_cond.specs.declared.token.Token.TheVariants as token
use Rattle.mi_cond.specs.Tree.{Tree, Alone, Compare, Not, Both}
use Rattle.mi_cond.specs.Lex.{all_ops, Tokens, is_good}

-- a part of a condition: its tokens, and its tree
pub record Part : Type 0 where
  pub text : List Token
  pub tree : Tree

-- the operands behind the first, each with its operator in front
abbrev pub row_text : Operator → List Part → List Token
row_text op [] = []
row_text op (x ∷ xs) = token.Join op ∷ x.text ++ row_text op xs

-- operators of one kind group from the left
abbrev pub row_tree : Operator → Tree → List Part → Tree
row_tree op t [] = t
row_tree op t (x ∷ xs) = row_tree op (Both op t x.tree) xs

abbrev pub Each : (List Token → Tree → Type 0) → List Part → Type 0
Each P [] = Unit {0}
Each P (x ∷ xs) = P x.text x.tree × Each P xs

-- a row of operands that P reads
abbrev pub Row : Operator → (List Token → Tree → Type 0) → List Token → Tree → Type 0
Row op P ts t = (x : Part) × (xs : List Part) × P x.text x.tree × Each P xs × (ts ≡ x.text ++ row_text op xs) × (t ≡ row_tree op x.tree xs)

-- rows of rows, from the tightest operator to the loosest
abbrev pub Levels : List Operator → (List Token → Tree → Type 0) → List Token → Tree → Type 0
Levels [] P = P
Levels (op ∷ ops) P = Levels ops (Row op P)

-- a value alone
abbrev pub IsAlone : List Token → Tree → Type 0
IsAlone ts t = (v : Value) × IsTrue (is_good v) × (ts ≡ token.Operand v ∷ []) × (t ≡ Alone v)

-- value, operator, value
abbrev pub IsComparison : List Token → Tree → Type 0
IsComparison ts t =
    (l : Value) × (c : Comparison) × (r : Value) × IsTrue (is_good l) × IsTrue (is_good r)
    × (ts ≡ token.Operand l ∷ token.Compare c ∷ token.Operand r ∷ []) × (t ≡ Compare c l r)

-- a factor whose brackets and NOT nest to n at most
abbrev pub Factor : ℕ → List Token → Tree → Type 0
Factor zero ts t = IsAlone ts t ⊎ IsComparison ts t
Factor (suc n) ts t =
    IsAlone ts t ⊎ (IsComparison ts t
    ⊎ (((inside : List Token) × (u : Tree) × Factor n inside u × (ts ≡ token.Negate ∷ inside) × (t ≡ Not u))
    ⊎ ((inside : List Token) × Levels all_ops (Factor n) inside t × (ts ≡ token.Open ∷ inside ++ token.Close ∷ []))))

abbrev pub Condition : ℕ → List Token → Tree → Type 0
Condition n = Levels all_ops (Factor n)

-- the text reads as the tree, with brackets and NOT that nest to n at most
unfoldable pub Reads : ℕ → List ℕ → Tree → Type 0
Reads n text t = (ts : List Token) × Tokens ts text × Condition n ts t
