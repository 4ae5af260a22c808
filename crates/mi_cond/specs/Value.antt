-- The value of a condition (Conditional Statement Syntax, "Comparison Operators", "Substring Operators", "Bitwise
-- Numeric Operators" and "Logical Operators"; which comparisons are of integers is this project's own).
use Rattle.std.specs.Prelude.{ℕ, ◌/◌, ◌%◌, ◌==◌, ◌&&◌, ◌||◌, not, Bool, true, false, if◌then◌else◌, List, [], ◌∷◌, bit_and, int_lt, int_le, Option, None, Some, ℤ, pos, negsuc, nat_eq}
use Rattle.std.specs.Ordering.{nat_cmp, int_eq, is_eq, is_ne, is_lt, is_le, is_gt, is_ge}
use Rattle.std.specs.Cmp.Lexicographic.{slice_cmp}
use Rattle.std.specs.Int.{cast_unsigned, w32}
use Rattle.std.specs.List.{starts_with, ends_with}
use Rattle.mi_text.specs.Fold.{folded}
use Rattle.mi_text.specs.Lookups.{Lookups}
use Rattle.mi_cond.specs.declared.operand.Operator.{Operator}
use Rattle.mi_cond.specs.declared.operand.Operator.TheVariants as op
use Rattle.mi_cond.specs.declared.operand.Relation.{Relation}
use Rattle.mi_cond.specs.declared.operand.Relation.TheVariants as relation
use Rattle.mi_cond.specs.declared.operand.Comparison.{Comparison}
use Rattle.mi_cond.specs.declared.operand.Value.{Value}
use Rattle.mi_cond.specs.declared.operand.Value.TheVariants as side
use Rattle.mi_cond.specs.Integer.{is_empty, spelled_integer}
use Rattle.mi_cond.specs.Tree.{Tree, Alone, Compare, Not, Both, joined_by}

-- ---- values

abbrev pub text_of : Lookups → Value → List ℕ
text_of env (side.Property name) = env.property name
text_of env (side.Variable name) = env.variable name
text_of env (side.State s name) = []
text_of env (side.Literal text) = text
text_of env (side.Integer z) = []

-- an integer or a state has a number, and a text where it spells one
abbrev pub number_of : Lookups → Value → Option ℤ
number_of env (side.Property name) = spelled_integer (env.property name)
number_of env (side.Variable name) = spelled_integer (env.variable name)
number_of env (side.State s name) = Some (env.state s name)
number_of env (side.Literal text) = spelled_integer text
number_of env (side.Integer z) = Some z

abbrev pub is_number : Value → Bool
is_number (side.Property name) = false
is_number (side.Variable name) = false
is_number (side.State s name) = true
is_number (side.Literal text) = false
is_number (side.Integer z) = true

-- a text is true where it isn't empty, an integer where it isn't 0, and a state where it isn't -1
abbrev pub is_true : Lookups → Value → Bool
is_true env (side.Property name) = not (is_empty (env.property name))
is_true env (side.Variable name) = not (is_empty (env.variable name))
is_true env (side.State s name) = not (int_eq (env.state s name) (negsuc 0))
is_true env (side.Literal text) = not (is_empty text)
is_true env (side.Integer z) = not (int_eq z (pos 0))

-- ---- comparisons

-- the 32 bits of an integer
abbrev pub bits_of : ℤ → ℕ
bits_of z = cast_unsigned w32 z

abbrev pub high_half : ℤ → ℤ
high_half z = pos (bits_of z / 65536)

abbrev pub low_half : ℤ → ℤ
low_half z = pos (bits_of z % 65536)

abbrev pub compare_integers : Relation → ℤ → ℤ → Bool
compare_integers relation.Equal l r = int_eq l r
compare_integers relation.NotEqual l r = not (int_eq l r)
compare_integers relation.Greater l r = int_lt r l
compare_integers relation.GreaterOrEqual l r = int_le r l
compare_integers relation.Less l r = int_lt l r
compare_integers relation.LessOrEqual l r = int_le l r
compare_integers relation.Contains l r = not (bit_and (bits_of l) (bits_of r) == 0)
compare_integers relation.BeginsWith l r = int_eq (high_half l) r
compare_integers relation.EndsWith l r = int_eq (low_half l) r

-- somewhere in the text the other one begins
abbrev pub contains : List ℕ → List ℕ → Bool
contains [] part = is_empty part
contains (b ∷ text) part = starts_with nat_eq (b ∷ text) part || contains text part

-- the bytes of UTF-8 are ordered as the code points
abbrev pub compare_texts : Relation → List ℕ → List ℕ → Bool
compare_texts relation.Equal l r = is_eq (slice_cmp nat_cmp l r)
compare_texts relation.NotEqual l r = is_ne (slice_cmp nat_cmp l r)
compare_texts relation.Greater l r = is_gt (slice_cmp nat_cmp l r)
compare_texts relation.GreaterOrEqual l r = is_ge (slice_cmp nat_cmp l r)
compare_texts relation.Less l r = is_lt (slice_cmp nat_cmp l r)
compare_texts relation.LessOrEqual l r = is_le (slice_cmp nat_cmp l r)
compare_texts relation.Contains l r = contains l r
compare_texts relation.BeginsWith l r = starts_with nat_eq l r
compare_texts relation.EndsWith l r = ends_with nat_eq l r

abbrev pub is_not_equal : Relation → Bool
is_not_equal relation.NotEqual = true
is_not_equal r = false

-- where a side spells no integer, the comparison is false, and true for `<>`
abbrev pub compare_numbers : Relation → Option ℤ → Option ℤ → Bool
compare_numbers r (Some x) (Some y) = compare_integers r x y
compare_numbers r (Some x) None = is_not_equal r
compare_numbers r None y = is_not_equal r

-- `~` folds both texts
abbrev pub cased : Bool → List ℕ → List ℕ
cased folds text = if folds then folded text else text

-- integers are compared where a side is an integer or a state, and else texts
abbrev pub compare : Lookups → Comparison → Value → Value → Bool
compare env c l r =
    if is_number l || is_number r then compare_numbers c.relation (number_of env l) (number_of env r)
    else compare_texts c.relation (cased c.folds (text_of env l)) (cased c.folds (text_of env r))

-- ---- conditions

abbrev pub combine : Operator → Bool → Bool → Bool
combine op.And l r = l && r
combine op.Or l r = l || r
combine op.Xor l r = if l then not r else r
combine op.Eqv l r = if l then r else not r
combine op.Imp l r = if l then r else true

-- a row so far, and one operand more
abbrev pub with_operand : Operator → Option Bool → Bool → Bool
with_operand = joined_by combine

-- the value of a condition
abbrev pub value : Tree → Lookups → Bool
value (Alone v) env = is_true env v
value (Compare c l r) env = compare env c l r
value (Not t) env = not (value t env)
value (Both op l r) env = combine op (value l env) (value r env)
