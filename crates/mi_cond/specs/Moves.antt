-- A token byte by byte, for the private functions that read one.
use Rattle.std.specs.Prelude.{ℕ, ◌+◌, ◌*◌, ◌-◌, nat_le, ◌==◌, ◌&&◌, ◌||◌, Bool, true, false, if◌then◌else◌, List, [], ◌∷◌, ◌++◌, Option, Some, None, option_map, option_and_then, codes}
use Rattle.std.specs.Str.{bytes_eq}
use Rattle.mi_text.specs.Fold.{folded}
use Rattle.mi_text.specs.declared.env.Sign.TheVariants as sign
use Rattle.mi_cond.specs.declared.operand.Operator.{Operator}
use Rattle.mi_cond.specs.declared.operand.Relation.{Relation}
use Rattle.mi_cond.specs.declared.operand.Relation.TheVariants as relation
use Rattle.mi_cond.specs.declared.operand.Comparison.{Comparison}
use Rattle.mi_cond.specs.declared.operand.Value.{Value}
use Rattle.mi_cond.specs.declared.operand.Value.TheVariants as value
use Rattle.mi_cond.specs.declared.token.Mark.{Mark}
use Rattle.mi_cond.specs.declared.token.Mark.TheVariants as mark
use Rattle.mi_cond.specs.declared.token.Token.{Token}
use Rattle.mi_cond.specs.declared.token.Token.TheVariants as token
use Rattle.mi_cond.specs.Integer.{is_digit, is_empty, signed}
use Rattle.mi_cond.specs.Lex.{is_blank, is_letter, is_name_byte, keyword, all_ops, operator_in}
use Rattle.mi_cond.specs.Tree.{Tree}
use Rattle.mi_cond.specs.Steps.{State, wants_value, has_value, step, end_of}

abbrev pub or_property : List ℕ → Option Operator → Token
or_property w None = token.Operand (value.Property w)
or_property w (Some o) = token.Join o

-- a keyword, or a property
abbrev pub word : List ℕ → Token
word w = if bytes_eq (folded w) (codes "not") then token.Negate else or_property w (operator_in all_ops (folded w))

-- the token that has begun
pub data Mode : Type 0 where
  Nothing : Mode
  InWord : (bytes : List ℕ) → Mode
  InSymbol : (mark : Mark) → (name : List ℕ) → Mode
  InLiteral : (text : List ℕ) → Mode
  AfterMinus : Mode
  InDigits : (negative : Bool) → (size : ℕ) → Mode
  AfterTilde : Mode
  InComparison : (comparison : Comparison) → Mode

-- what a byte does: the token grows, it ends with the byte, it ended before the byte, or the byte can't stand there
pub data Move : Type 0 where
  Grows : (mode : Mode) → Move
  Takes : (token : Token) → Move
  Leaves : (token : Token) → Move
  Wrong : Move

abbrev pub named : Mark → List ℕ → Value
named mark.Variable name = value.Variable name
named (mark.State s) name = value.State s name

abbrev pub marked_by : ℕ → Option Mark
marked_by b =
    if b == 37 then Some mark.Variable
    else if b == 36 then Some (mark.State sign.Action)
    else if b == 63 then Some (mark.State sign.Installed)
    else if b == 38 then Some (mark.State sign.FeatureAction)
    else if b == 33 then Some (mark.State sign.FeatureInstalled)
    else None

abbrev pub relation_by : ℕ → Option Relation
relation_by b =
    if b == 61 then Some relation.Equal
    else if b == 60 then Some relation.Less
    else if b == 62 then Some relation.Greater
    else None

-- the longer operator
abbrev pub relation_with : Relation → ℕ → Option Relation
relation_with relation.Less b =
    if b == 61 then Some relation.LessOrEqual
    else if b == 60 then Some relation.BeginsWith
    else if b == 62 then Some relation.NotEqual
    else None
relation_with relation.Greater b =
    if b == 61 then Some relation.GreaterOrEqual
    else if b == 60 then Some relation.Contains
    else if b == 62 then Some relation.EndsWith
    else None
relation_with relation.Equal b = None
relation_with relation.NotEqual b = None
relation_with relation.GreaterOrEqual b = None
relation_with relation.LessOrEqual b = None
relation_with relation.Contains b = None
relation_with relation.BeginsWith b = None
relation_with relation.EndsWith b = None

-- the token that ends here, if one does
abbrev pub finished : Mode → Option Token
finished Nothing = None
finished (InWord w) = Some (word w)
finished (InSymbol m w) = if is_empty w then None else Some (token.Operand (named m w))
finished (InLiteral text) = None
finished AfterMinus = None
finished (InDigits negative n) = Some (token.Operand (value.Integer (signed negative n)))
finished AfterTilde = None
finished (InComparison c) = Some (token.Compare c)

abbrev pub left : Option Token → Move
left None = Wrong
left (Some x) = Leaves x

abbrev pub grows_to : (Mark → Mode) → Option Mark → Move
grows_to f None = Wrong
grows_to f (Some m) = Grows (f m)

abbrev pub compares : Bool → Move → Option Relation → Move
compares folds other None = other
compares folds other (Some r) = Grows (InComparison (record { relation = r; folds = folds }))

-- the first byte of an integer, a word, a symbol or an operator of comparison
abbrev pub begin_name : ℕ → Move
begin_name b =
    if is_digit b then Grows (InDigits false (b - 48))
    else if is_letter b then Grows (InWord (b ∷ []))
    else compares false (grows_to (λ m. InSymbol m []) (marked_by b)) (relation_by b)

-- the first byte of a token, or a blank
abbrev pub begin : ℕ → Move
begin b =
    if is_blank b then Grows Nothing
    else if b == 40 then Takes token.Open
    else if b == 41 then Takes token.Close
    else if b == 34 then Grows (InLiteral [])
    else if b == 45 then Grows AfterMinus
    else if b == 126 then Grows AfterTilde
    else if is_digit b then Grows (InDigits false (b - 48))
    else if is_letter b then Grows (InWord (b ∷ []))
    else compares false (grows_to (λ m. InSymbol m []) (marked_by b)) (relation_by b)

abbrev pub move : Mode → ℕ → Move
move Nothing b = begin b
move (InWord w) b = if is_name_byte b then Grows (InWord (w ++ b ∷ [])) else left (finished (InWord w))
move (InSymbol m w) b = if is_name_byte b then Grows (InSymbol m (w ++ b ∷ [])) else left (finished (InSymbol m w))
move (InLiteral text) b = if b == 34 then Takes (token.Operand (value.Literal text)) else Grows (InLiteral (text ++ b ∷ []))
move AfterMinus b = if is_digit b then Grows (InDigits true (b - 48)) else Wrong
move (InDigits negative n) b = if is_digit b then Grows (InDigits negative (10 * n + (b - 48))) else left (finished (InDigits negative n))
move AfterTilde b = compares true Wrong (relation_by b)
move (InComparison c) b = compares c.folds (left (finished (InComparison c))) (relation_with c.relation b)

-- ---- the place in a text: the token that has begun, and what stands before it

pub record Place : Type 0 where
  pub mode : Mode
  pub state : State

abbrev pub begins_with : List ℕ → List ℕ → Bool
begins_with xs [] = true
begins_with [] (y ∷ ys) = false
begins_with (x ∷ xs) (y ∷ ys) = if x == y then begins_with xs ys else false

abbrev pub begins_operator : List Operator → List ℕ → Bool
begins_operator [] small = false
begins_operator (o ∷ os) small = begins_with (keyword o) small || begins_operator os small

-- whether some token that begins so may stand here
abbrev pub may_stand : State → Mode → Bool
may_stand s Nothing = true
may_stand s (InWord w) = wants_value s || begins_operator all_ops (folded w)
may_stand s (InSymbol m w) = wants_value s
may_stand s (InLiteral text) = wants_value s
may_stand s AfterMinus = wants_value s
may_stand s (InDigits negative n) = wants_value s && nat_le n 2147483647
may_stand s AfterTilde = has_value s
may_stand s (InComparison c) = has_value s

abbrev pub within : State → Mode → Option Place
within s m = if may_stand s m then Some (record { mode = m; state = s }) else None

abbrev pub between : State → Place
between s = record { mode = Nothing; state = s }

abbrev pub first_at : State → Move → Option Place
first_at s (Grows m) = within s m
first_at s (Takes x) = option_map between (step s x)
first_at s (Leaves x) = None
first_at s Wrong = None

abbrev pub after : State → ℕ → Move → Option Place
after s b (Grows m) = within s m
after s b (Takes x) = option_map between (step s x)
after s b (Leaves x) = option_and_then (λ n. first_at n (begin b)) (step s x)
after s b Wrong = None

abbrev pub byte : Place → ℕ → Option Place
byte p b = after p.state b (move p.mode b)

-- what is read where the text ends
abbrev pub end_in : Mode → State → Option Tree
end_in Nothing s = end_of s
end_in m s = option_and_then (λ x. option_and_then end_of (step s x)) (finished m)

abbrev pub read_end : Place → Option Tree
read_end p = end_in p.mode p.state
