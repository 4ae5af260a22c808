-- The tokens of a text (Conditional Statement Syntax, "Conditional Expression Syntax").
use Rattle.std.specs.Prelude.{◌≡◌, ℕ, ◌==◌, ◌&&◌, ◌||◌, Bool, true, false, if◌then◌else◌, IsTrue, List, [], ◌∷◌, ◌++◌, Option, None, Some, is_some, not, codes}
use Rattle.std.specs.Str.{bytes_eq}
use Rattle.std.specs.List.{list_all}
use Rattle.mi_text.specs.Fold.{folded}
use Rattle.mi_text.specs.PropertyNames.{begins_name, continues_name, is_property_name}
use Rattle.mi_text.specs.declared.env.Sign.{Sign}
use Rattle.mi_text.specs.declared.env.Sign.TheVariants as sign
use Rattle.mi_cond.specs.declared.operand.Operator.{Operator}
use Rattle.mi_cond.specs.declared.operand.Operator.TheVariants as op
use Rattle.mi_cond.specs.declared.operand.Relation.{Relation}
use Rattle.mi_cond.specs.declared.operand.Relation.TheVariants as relation
use Rattle.mi_cond.specs.declared.operand.Comparison.{Comparison}
use Rattle.mi_cond.specs.declared.operand.Value.{Value}
use Rattle.mi_cond.specs.declared.operand.Value.TheVariants as value
use Rattle.mi_cond.specs.declared.token.Token.{Token}
use Rattle.mi_cond.specs.declared.token.Token.TheVariants.{Open, Close, Negate, Join, Operand, Compare}
use Rattle.mi_cond.specs.Integer.{integer_of, is_small}

-- blanks and tabs
abbrev pub is_blank : ℕ → Bool
is_blank b = (b == 32) || (b == 9)

abbrev pub are_blanks : List ℕ → Bool
are_blanks [] = true
are_blanks (b ∷ bs) = is_blank b && are_blanks bs

-- a letter or `_`
abbrev pub is_letter : ℕ → Bool
is_letter b = begins_name b

-- a letter, a digit, `_` or `.`
abbrev pub is_name_byte : ℕ → Bool
is_name_byte b = continues_name b

abbrev pub are_name_bytes : List ℕ → Bool
are_name_bytes bs = list_all continues_name bs

abbrev pub is_name : List ℕ → Bool
is_name [] = false
is_name (b ∷ bs) = are_name_bytes (b ∷ bs)

abbrev pub has_no_quote : List ℕ → Bool
has_no_quote [] = true
has_no_quote (b ∷ bs) = if b == 34 then false else has_no_quote bs

-- ---- keywords, in either case

abbrev pub keyword : Operator → List ℕ
keyword op.And = codes "and"
keyword op.Or = codes "or"
keyword op.Xor = codes "xor"
keyword op.Eqv = codes "eqv"
keyword op.Imp = codes "imp"

-- the operators from the tightest
abbrev pub all_ops : List Operator
all_ops = op.And ∷ op.Or ∷ op.Xor ∷ op.Eqv ∷ op.Imp ∷ []

abbrev pub operator_in : List Operator → List ℕ → Option Operator
operator_in [] small = None
operator_in (o ∷ os) small = if bytes_eq small (keyword o) then Some o else operator_in os small

abbrev pub is_keyword : List ℕ → Bool
is_keyword w = bytes_eq (folded w) (codes "not") || is_some (operator_in all_ops (folded w))

-- ---- the shapes of tokens

abbrev pub mark_of : Sign → ℕ
mark_of sign.Action = 36
mark_of sign.Installed = 63
mark_of sign.FeatureAction = 38
mark_of sign.FeatureInstalled = 33

abbrev pub relation_text : Relation → List ℕ
relation_text relation.Equal = codes "="
relation_text relation.NotEqual = codes "<>"
relation_text relation.Greater = codes ">"
relation_text relation.GreaterOrEqual = codes ">="
relation_text relation.Less = codes "<"
relation_text relation.LessOrEqual = codes "<="
relation_text relation.Contains = codes "><"
relation_text relation.BeginsWith = codes "<<"
relation_text relation.EndsWith = codes ">>"

abbrev pub comparison_text : Comparison → List ℕ
comparison_text c = if c.folds then 126 ∷ relation_text c.relation else relation_text c.relation

abbrev pub IsOperandText : Value → List ℕ → Type 0
IsOperandText (value.Property name) w = (w ≡ name) × IsTrue (is_property_name name) × (is_keyword name ≡ false)
IsOperandText (value.Variable name) w = (w ≡ 37 ∷ name) × IsTrue (is_name name)
IsOperandText (value.State s name) w = (w ≡ mark_of s ∷ name) × IsTrue (is_name name)
IsOperandText (value.Literal text) w = (w ≡ 34 ∷ text ++ 34 ∷ []) × IsTrue (has_no_quote text)
IsOperandText (value.Integer z) w = integer_of w ≡ Some z

-- the text of a token
abbrev pub IsTokenText : Token → List ℕ → Type 0
IsTokenText Open w = w ≡ codes "("
IsTokenText Close w = w ≡ codes ")"
IsTokenText Negate w = folded w ≡ codes "not"
IsTokenText (Join o) w = folded w ≡ keyword o
IsTokenText (Compare c) w = w ≡ comparison_text c
IsTokenText (Operand v) w = IsOperandText v w

-- no longer front of the text is a token
abbrev pub IsLongest : List ℕ → List ℕ → Type 0
IsLongest w rest = (x : Token) (more behind : List ℕ) → rest ≡ more ++ behind → IsTokenText x (w ++ more) → more ≡ []

-- the tokens of a text, each as long as it can be, with blanks and tabs around them
abbrev pub Tokens : List Token → List ℕ → Type 0
Tokens [] text = IsTrue (are_blanks text)
Tokens (x ∷ xs) text =
    (gap : List ℕ) × (w : List ℕ) × (rest : List ℕ) × IsTrue (are_blanks gap) × IsTokenText x w × IsLongest w rest × Tokens xs rest × (text ≡ gap ++ (w ++ rest))

-- keywords aren't names, and integers have bounds
abbrev pub is_good : Value → Bool
is_good (value.Property name) = true
is_good (value.Variable name) = not (is_keyword name)
is_good (value.State s name) = not (is_keyword name)
is_good (value.Literal text) = true
is_good (value.Integer z) = is_small z
