-- The tokens from left to right are the tokens of a text.
use Rattle.std.proofs.Common.{◌≡◌, ℕ, ◌+◌, ◌*◌, ◌-◌, ◌≤◌, eqb, Bool, true, false, cond, List, [], ◌∷◌, ◌++◌, Option, Some, None, refl, sym, ap, ◌∙◌, append_assoc, arith, inl, inr}
use Rattle.std.specs.Prelude.{codes, is_some, ℤ, fold}
use Rattle.std.specs.Char.{to_ascii_lowercase}
use Rattle.std.specs.Str.{bytes_eq}
use Rattle.std.proofs.lemmas.Bool.{cases_Bool, eqb-true}
use Rattle.std.proofs.lemmas.Bool.Decides.{nat_tests}
use Rattle.std.proofs.lemmas.Slice.Eq.{bytes_eq-Decides}
use Rattle.std.proofs.lemmas.List.{append-nil}
use Rattle.mi_text.specs.Fold.{folded}
use Rattle.mi_text.specs.PropertyNames.{is_property_name}
use Rattle.mi_text.specs.declared.env.Sign.{Sign}
use Rattle.mi_text.specs.declared.env.Sign.TheVariants as sign
use Rattle.mi_cond.proofs.Basics.{and_true, or_false}
use Rattle.mi_cond.specs.declared.operand.Operator.{Operator}
use Rattle.mi_cond.specs.declared.operand.Operator.TheVariants as op
use Rattle.mi_cond.specs.declared.operand.Relation.{Relation}
use Rattle.mi_cond.specs.declared.operand.Relation.TheVariants as relation
use Rattle.mi_cond.specs.declared.operand.Comparison.{Comparison}
use Rattle.mi_cond.specs.declared.operand.Value.TheVariants as value
use Rattle.mi_cond.specs.declared.token.Mark.{Mark}
use Rattle.mi_cond.specs.declared.token.Mark.TheVariants as mark
use Rattle.mi_cond.specs.declared.token.Token.{Token}
use Rattle.mi_cond.specs.declared.token.Token.TheVariants.{Open, Close, Negate, Join, Operand, Compare as Compares}
use Rattle.mi_cond.specs.Integer.{is_digit, are_digits, is_empty, decimal_of, signed, digits_of, integer_of}
use Rattle.mi_cond.specs.Lex.{is_blank, is_letter, is_name_byte, are_name_bytes, is_name, has_no_quote, keyword, all_ops, operator_in, is_keyword, mark_of, relation_text, comparison_text, IsTokenText}
use Rattle.mi_cond.specs.Moves.{Mode, Nothing, InWord, InSymbol, InLiteral, AfterMinus, InDigits, AfterTilde, InComparison, Move, Grows, Takes, Leaves, Wrong, named, marked_by, relation_by, relation_with, finished, left, grows_to, compares, begin, move, or_property, word}
use Rattle.mi_cond.proofs.ByteSteps.{pick}
use Rattle.mi_cond.proofs.ByteEnds.{word_is_join}

-- ---- the token whose text is given

abbrev pub if_last : {A : Type 0} → A → List ℕ → Option A
if_last x [] = Some x
if_last x (b ∷ bs) = None

abbrev pub exact_by : (Mode → Option Token) → List ℕ → Move → Option Token
exact_by k bs (Grows Nothing) = None
exact_by k bs (Grows m) = k m
exact_by k bs (Takes x) = if_last x bs
exact_by k bs (Leaves x) = None
exact_by k bs Wrong = None

-- the token that the rest of its text makes
abbrev pub exact : Mode → List ℕ → Option Token
exact m [] = finished m
exact m (b ∷ bs) = exact_by (λ n. exact n bs) bs (move m b)

-- ---- each token's text makes it

pub begin-letter : (b : ℕ) → is_letter b ≡ true → begin b ≡ Grows (InWord (b ∷ []))
begin-letter b e =
    let n1 : is_blank b ≡ false = grind (arith, nat_tests) in
    let n2 : eqb b 40 ≡ false = grind (arith, nat_tests) in
    let n3 : eqb b 41 ≡ false = grind (arith, nat_tests) in
    let n4 : eqb b 34 ≡ false = grind (arith, nat_tests) in
    let n5 : eqb b 45 ≡ false = grind (arith, nat_tests) in
    let n6 : eqb b 126 ≡ false = grind (arith, nat_tests) in
    let n7 : is_digit b ≡ false = grind (arith, nat_tests) in
    rw (n1, n2, n3, n4, n5, n6, n7, e) refl

begin-digit : (b : ℕ) → is_digit b ≡ true → begin b ≡ Grows (InDigits false (b - 48))
begin-digit b e =
    let n1 : is_blank b ≡ false = grind (arith, nat_tests) in
    let n2 : eqb b 40 ≡ false = grind (arith, nat_tests) in
    let n3 : eqb b 41 ≡ false = grind (arith, nat_tests) in
    let n4 : eqb b 34 ≡ false = grind (arith, nat_tests) in
    let n5 : eqb b 45 ≡ false = grind (arith, nat_tests) in
    let n6 : eqb b 126 ≡ false = grind (arith, nat_tests) in
    rw (n1, n2, n3, n4, n5, n6, e) refl

pub begin-blank : (b : ℕ) → is_blank b ≡ true → begin b ≡ Grows Nothing
begin-blank b e = rw e refl

exact-word : (w bs : List ℕ) → are_name_bytes bs ≡ true → exact (InWord w) bs ≡ Some (word (w ++ bs))
exact-word w [] e = ap (λ (v : List ℕ). Some (word v)) (sym (append-nil w))
exact-word w (b ∷ bs) e =
    let both = and_true (is_name_byte b) (are_name_bytes bs) e in
    let one : exact (InWord w) (b ∷ bs) ≡ exact (InWord (w ++ b ∷ [])) bs = let is = both.0 in rw is refl in
    one ∙ exact-word (w ++ b ∷ []) bs both.1 ∙ ap (λ (v : List ℕ). Some (word v)) (append_assoc w (b ∷ []) bs)

exact-property : (w : List ℕ) → is_property_name w ≡ true → exact Nothing w ≡ Some (word w)
exact-property [] e = absurd cc
exact-property (b ∷ bs) e =
    let both = and_true (is_letter b) (are_name_bytes bs) e in
    ap (exact_by (λ n. exact n bs) bs) (begin-letter b both.0) ∙ exact-word (b ∷ []) bs both.1

exact-symbol : (k : Mark) (w bs : List ℕ) → are_name_bytes bs ≡ true → is_empty (w ++ bs) ≡ false → exact (InSymbol k w) bs ≡ Some (Operand (named k (w ++ bs)))
exact-symbol k w [] e some =
    let same : w ++ [] ≡ w = append-nil w in
    let full : is_empty w ≡ false = sym (ap is_empty same) ∙ some in
    ap (λ (b : Bool). cond b None (Some (Operand (named k w)))) full ∙ ap (λ (v : List ℕ). Some (Operand (named k v))) (sym same)
exact-symbol k w (b ∷ bs) e some =
    let both = and_true (is_name_byte b) (are_name_bytes bs) e in
    let seam : (w ++ b ∷ []) ++ bs ≡ w ++ b ∷ bs = append_assoc w (b ∷ []) bs in
    let one : exact (InSymbol k w) (b ∷ bs) ≡ exact (InSymbol k (w ++ b ∷ [])) bs = let is = both.0 in rw is refl in
    one ∙ exact-symbol k (w ++ b ∷ []) bs both.1 (ap is_empty seam ∙ some) ∙ ap (λ (v : List ℕ). Some (Operand (named k v))) seam

named_symbol : (k : Mark) (name : List ℕ) → is_name name ≡ true → exact (InSymbol k []) name ≡ Some (Operand (named k name))
named_symbol k [] e = absurd cc
named_symbol k (b ∷ bs) e = exact-symbol k [] (b ∷ bs) e refl

state_symbol : (s : Sign) (name : List ℕ) → is_name name ≡ true → exact Nothing (mark_of s ∷ name) ≡ Some (Operand (value.State s name))
state_symbol sign.Action name e = named_symbol (mark.State sign.Action) name e
state_symbol sign.Installed name e = named_symbol (mark.State sign.Installed) name e
state_symbol sign.FeatureAction name e = named_symbol (mark.State sign.FeatureAction) name e
state_symbol sign.FeatureInstalled name e = named_symbol (mark.State sign.FeatureInstalled) name e

exact-literal : (text more : List ℕ) → has_no_quote more ≡ true → exact (InLiteral text) (more ++ 34 ∷ []) ≡ Some (Operand (value.Literal (text ++ more)))
exact-literal text [] e = ap (λ (v : List ℕ). Some (Operand (value.Literal v))) (sym (append-nil text))
exact-literal text (b ∷ bs) e =
    elim (cases_Bool (eqb b 34)) [
      | inl is ↦ let bad : has_no_quote (b ∷ bs) ≡ false = rw is refl in absurd cc
      | inr is ↦
          let rest : has_no_quote bs ≡ true = sym (ap (λ (t : Bool). cond t false (has_no_quote bs)) is) ∙ e in
          let one : exact (InLiteral text) (b ∷ bs ++ 34 ∷ []) ≡ exact (InLiteral (text ++ b ∷ [])) (bs ++ 34 ∷ []) = rw is refl in
          one ∙ exact-literal (text ++ b ∷ []) bs rest ∙ ap (λ (v : List ℕ). Some (Operand (value.Literal v))) (append_assoc text (b ∷ []) bs)
    ]

exact-digits : (negative : Bool) (n : ℕ) (bs : List ℕ) → are_digits bs ≡ true → exact (InDigits negative n) bs ≡ Some (Operand (value.Integer (signed negative (fold (λ k b. 10 * k + (b - 48)) n bs))))
exact-digits negative n [] e = refl
exact-digits negative n (b ∷ bs) e =
    let both = and_true (is_digit b) (are_digits bs) e in
    let one : exact (InDigits negative n) (b ∷ bs) ≡ exact (InDigits negative (10 * n + (b - 48))) bs = let is = both.0 in rw is refl in
    one ∙ exact-digits negative (10 * n + (b - 48)) bs both.1

first_digit : (b : ℕ) → b - 48 ≡ 10 * 0 + (b - 48)
first_digit b = omega arith

digits_are : (negative : Bool) (b : ℕ) (bs : List ℕ) (z : ℤ) → digits_of negative (b ∷ bs) ≡ Some z → (is_digit b ≡ true) × (are_digits bs ≡ true) × (signed negative (decimal_of (b ∷ bs)) ≡ z)
digits_are negative b bs z e =
    elim (cases_Bool (are_digits (b ∷ bs))) [
      | inl is ↦
          let both = and_true (is_digit b) (are_digits bs) is in
          let some : Some (signed negative (decimal_of (b ∷ bs))) ≡ Some z = sym (ap (λ (t : Bool). cond t (Some (signed negative (decimal_of (b ∷ bs)))) None) is) ∙ e in
          (both.0, both.1, cc)
      | inr is ↦ let none : digits_of negative (b ∷ bs) ≡ None = ap (λ (t : Bool). cond t (Some (signed negative (decimal_of (b ∷ bs)))) None) is in absurd cc
    ]

from_first : (negative : Bool) (b : ℕ) (bs : List ℕ) (z : ℤ) → are_digits bs ≡ true → signed negative (decimal_of (b ∷ bs)) ≡ z → exact (InDigits negative (b - 48)) bs ≡ Some (Operand (value.Integer z))
from_first negative b bs z digits is =
    ap (λ (n : ℕ). exact (InDigits negative n) bs) (first_digit b) ∙ exact-digits negative (10 * 0 + (b - 48)) bs digits ∙ ap (λ (y : ℤ). Some (Operand (value.Integer y))) is

negative_integer : (bs : List ℕ) (z : ℤ) → digits_of true bs ≡ Some z → exact AfterMinus bs ≡ Some (Operand (value.Integer z))
negative_integer [] z e = absurd cc
negative_integer (b ∷ bs) z e =
    let d = digits_are true b bs z e in
    let one : exact AfterMinus (b ∷ bs) ≡ exact (InDigits true (b - 48)) bs = let is = d.0 in rw is refl in
    one ∙ from_first true b bs z d.1 d.2

exact-integer : (w : List ℕ) (z : ℤ) → integer_of w ≡ Some z → exact Nothing w ≡ Some (Operand (value.Integer z))
exact-integer [] z e = absurd cc
exact-integer (b ∷ bs) z e =
    elim (cases_Bool (eqb b 45)) [
      | inl is ↦
          let minus : b ≡ 45 = eqb-true b 45 is in
          let digits : digits_of true bs ≡ Some z = sym (ap (λ (t : Bool). cond t (digits_of true bs) (digits_of false (b ∷ bs))) is) ∙ e in
          ap (λ (k : ℕ). exact Nothing (k ∷ bs)) minus ∙ negative_integer bs z digits
      | inr is ↦
          let digits : digits_of false (b ∷ bs) ≡ Some z = sym (ap (λ (t : Bool). cond t (digits_of true bs) (digits_of false (b ∷ bs))) is) ∙ e in
          let d = digits_are false b bs z digits in
          ap (exact_by (λ n. exact n bs) bs) (begin-digit b d.0) ∙ from_first false b bs z d.1 d.2
    ]

exact-comparison : (folds : Bool) (r : Relation) → exact Nothing (comparison_text (record { relation = r; folds = folds })) ≡ Some (Compares (record { relation = r; folds = folds }))
exact-comparison true relation.Equal = refl
exact-comparison true relation.NotEqual = refl
exact-comparison true relation.Greater = refl
exact-comparison true relation.GreaterOrEqual = refl
exact-comparison true relation.Less = refl
exact-comparison true relation.LessOrEqual = refl
exact-comparison true relation.Contains = refl
exact-comparison true relation.BeginsWith = refl
exact-comparison true relation.EndsWith = refl
exact-comparison false relation.Equal = refl
exact-comparison false relation.NotEqual = refl
exact-comparison false relation.Greater = refl
exact-comparison false relation.GreaterOrEqual = refl
exact-comparison false relation.Less = refl
exact-comparison false relation.LessOrEqual = refl
exact-comparison false relation.Contains = refl
exact-comparison false relation.BeginsWith = refl
exact-comparison false relation.EndsWith = refl

-- a keyword has the shape of a name
lower_is_letter : (b c : ℕ) → to_ascii_lowercase b ≡ c → 97 ≤ c → c ≤ 122 → is_letter b ≡ true
lower_is_letter b c e low high = grind (arith, nat_tests)

abbrev AllLower : List ℕ → Type 0
AllLower [] = Unit {0}
AllLower (c ∷ cs) = (97 ≤ c) × (c ≤ 122) × AllLower cs

letter_is_name_byte : (b : ℕ) → is_letter b ≡ true → is_name_byte b ≡ true
letter_is_name_byte b e = grind (arith, nat_tests)

names_from_lower : (w k : List ℕ) → folded w ≡ k → AllLower k → are_name_bytes w ≡ true
names_from_lower [] k e h = refl
names_from_lower (b ∷ bs) [] e h = absurd cc
names_from_lower (b ∷ bs) (c ∷ cs) e h =
    let here : to_ascii_lowercase b ≡ c = cc in
    let rest : folded bs ≡ cs = cc in
    let one = letter_is_name_byte b (lower_is_letter b c here h.0 h.1) in
    rw one (names_from_lower bs cs rest h.2)

property_from_lower : (w : List ℕ) (c : ℕ) (cs : List ℕ) → folded w ≡ c ∷ cs → AllLower (c ∷ cs) → is_property_name w ≡ true
property_from_lower [] c cs e h = absurd cc
property_from_lower (b ∷ bs) c cs e h =
    let here : to_ascii_lowercase b ≡ c = cc in
    let rest : folded bs ≡ cs = cc in
    let one = lower_is_letter b c here h.0 h.1 in
    rw one (names_from_lower bs cs rest h.2)

negate_text : (w : List ℕ) → folded w ≡ codes "not" → exact Nothing w ≡ Some Negate
negate_text w e =
    let is : word w ≡ Negate = rw e refl in
    exact-property w (property_from_lower w 110 (111 ∷ 116 ∷ []) e (omega arith, omega arith, (omega arith, omega arith, (omega arith, omega arith, tt)))) ∙ ap Some is

join_shape : (w : List ℕ) (o : Operator) → folded w ≡ keyword o → is_property_name w ≡ true
join_shape w op.And e = property_from_lower w 97 (110 ∷ 100 ∷ []) e (omega arith, omega arith, (omega arith, omega arith, (omega arith, omega arith, tt)))
join_shape w op.Or e = property_from_lower w 111 (114 ∷ []) e (omega arith, omega arith, (omega arith, omega arith, tt))
join_shape w op.Xor e = property_from_lower w 120 (111 ∷ 114 ∷ []) e (omega arith, omega arith, (omega arith, omega arith, (omega arith, omega arith, tt)))
join_shape w op.Eqv e = property_from_lower w 101 (113 ∷ 118 ∷ []) e (omega arith, omega arith, (omega arith, omega arith, (omega arith, omega arith, tt)))
join_shape w op.Imp e = property_from_lower w 105 (109 ∷ 112 ∷ []) e (omega arith, omega arith, (omega arith, omega arith, (omega arith, omega arith, tt)))

or_property-none : (w : List ℕ) (o : Option Operator) → is_some o ≡ false → or_property w o ≡ Operand (value.Property w)
or_property-none w None e = refl
or_property-none w (Some o) e = absurd cc

word_is_property : (w : List ℕ) → is_keyword w ≡ false → word w ≡ Operand (value.Property w)
word_is_property w e =
    let o = or_false (bytes_eq (folded w) (codes "not")) (is_some (operator_in all_ops (folded w))) e in
    ap (λ (b : Bool). cond b Negate (or_property w (operator_in all_ops (folded w)))) o.0 ∙ or_property-none w (operator_in all_ops (folded w)) o.1

-- a token's text makes it, and no other
pub exact_text : (x : Token) (w : List ℕ) → IsTokenText x w → exact Nothing w ≡ Some x
exact_text Open w e = ap (exact Nothing) e
exact_text Close w e = ap (exact Nothing) e
exact_text Negate w e = negate_text w e
exact_text (Join o) w e = exact-property w (join_shape w o e) ∙ ap Some (word_is_join w o e)
exact_text (Compares c) w e = ap (exact Nothing) e ∙ exact-comparison c.folds c.relation
exact_text (Operand (value.Property name)) w t = ap (exact Nothing) t.0 ∙ exact-property name t.1 ∙ ap Some (word_is_property name t.2)
exact_text (Operand (value.Variable name)) w t = ap (exact Nothing) t.0 ∙ named_symbol mark.Variable name t.1
exact_text (Operand (value.State s name)) w t = ap (exact Nothing) t.0 ∙ state_symbol s name t.1
exact_text (Operand (value.Literal text)) w t = ap (exact Nothing) t.0 ∙ exact-literal [] text t.1
exact_text (Operand (value.Integer z)) w t = exact-integer w z t

-- ---- what has been read of a token's text

abbrev pub mark_byte : Mark → ℕ
mark_byte mark.Variable = 37
mark_byte (mark.State s) = mark_of s

abbrev pub minus : Bool → List ℕ → List ℕ
minus true ds = 45 ∷ ds
minus false ds = ds

abbrev pub Spelt : Mode → List ℕ → Type 0
Spelt Nothing w = w ≡ []
Spelt (InWord v) w = (w ≡ v) × (is_property_name v ≡ true)
Spelt (InSymbol k v) w = (w ≡ mark_byte k ∷ v) × (are_name_bytes v ≡ true)
Spelt (InLiteral text) w = (w ≡ 34 ∷ text) × (has_no_quote text ≡ true)
Spelt AfterMinus w = w ≡ 45 ∷ []
Spelt (InDigits negative n) w = (d : ℕ) × (ds : List ℕ) × (w ≡ minus negative (d ∷ ds)) × (are_digits (d ∷ ds) ≡ true) × (n ≡ decimal_of (d ∷ ds))
Spelt AfterTilde w = w ≡ 126 ∷ []
Spelt (InComparison c) w = w ≡ comparison_text c

-- ---- what a byte does to it

abbrev pub MoveSpelt : List ℕ → ℕ → Move → Type 0
MoveSpelt w b (Grows m) = Spelt m (w ++ b ∷ [])
MoveSpelt w b (Takes x) = IsTokenText x (w ++ b ∷ [])
MoveSpelt w b (Leaves x) = IsTokenText x w
MoveSpelt w b Wrong = Unit {0}

-- the first byte of a token, or a blank
abbrev pub BeginSpelt : ℕ → Move → Type 0
BeginSpelt b (Grows Nothing) = is_blank b ≡ true
BeginSpelt b (Grows m) = Spelt m (b ∷ [])
BeginSpelt b (Takes x) = IsTokenText x (b ∷ [])
BeginSpelt b (Leaves x) = ⊥
BeginSpelt b Wrong = Unit {0}

one_byte : (b c : ℕ) → eqb b c ≡ true → b ∷ [] ≡ c ∷ []
one_byte b c e = ap (λ (k : ℕ). k ∷ []) (eqb-true b c e)

marked_spelt : (b : ℕ) → BeginSpelt b (grows_to (λ m. InSymbol m []) (marked_by b))
marked_spelt b =
    let P : Option Mark → Type 0 = λ o. BeginSpelt b (grows_to (λ m. InSymbol m []) o) in
    pick P (eqb b 37) (Some mark.Variable) _ (λ e. (one_byte b 37 e, refl)) (λ _.
    pick P (eqb b 36) (Some (mark.State sign.Action)) _ (λ e. (one_byte b 36 e, refl)) (λ _.
    pick P (eqb b 63) (Some (mark.State sign.Installed)) _ (λ e. (one_byte b 63 e, refl)) (λ _.
    pick P (eqb b 38) (Some (mark.State sign.FeatureAction)) _ (λ e. (one_byte b 38 e, refl)) (λ _.
    pick P (eqb b 33) (Some (mark.State sign.FeatureInstalled)) None (λ e. (one_byte b 33 e, refl)) (λ _. tt)))))

compared_spelt : (b : ℕ) → BeginSpelt b (compares false (grows_to (λ m. InSymbol m []) (marked_by b)) (relation_by b))
compared_spelt b =
    let P : Option Relation → Type 0 = λ o. BeginSpelt b (compares false (grows_to (λ m. InSymbol m []) (marked_by b)) o) in
    pick P (eqb b 61) (Some relation.Equal) _ (one_byte b 61) (λ _.
    pick P (eqb b 60) (Some relation.Less) _ (one_byte b 60) (λ _.
    pick P (eqb b 62) (Some relation.Greater) None (one_byte b 62) (λ _. marked_spelt b)))

letter_spelt : (b : ℕ) → is_letter b ≡ true → Spelt (InWord (b ∷ [])) (b ∷ [])
letter_spelt b e = (refl, rw e refl)

digit_spelt : (b : ℕ) → is_digit b ≡ true → Spelt (InDigits false (b - 48)) (b ∷ [])
digit_spelt b e = (b, [], refl, rw e refl, first_digit b)

pub begin_spelt : (b : ℕ) → BeginSpelt b (begin b)
begin_spelt b =
    pick (BeginSpelt b) (is_blank b) (Grows Nothing) _ (λ e. e) (λ _.
    pick (BeginSpelt b) (eqb b 40) (Takes Open) _ (one_byte b 40) (λ _.
    pick (BeginSpelt b) (eqb b 41) (Takes Close) _ (one_byte b 41) (λ _.
    pick (BeginSpelt b) (eqb b 34) (Grows (InLiteral [])) _ (λ e. (one_byte b 34 e, refl)) (λ _.
    pick (BeginSpelt b) (eqb b 45) (Grows AfterMinus) _ (one_byte b 45) (λ _.
    pick (BeginSpelt b) (eqb b 126) (Grows AfterTilde) _ (one_byte b 126) (λ _.
    pick (BeginSpelt b) (is_digit b) (Grows (InDigits false (b - 48))) _ (digit_spelt b) (λ _.
    pick (BeginSpelt b) (is_letter b) (Grows (InWord (b ∷ []))) _ (letter_spelt b) (λ _. compared_spelt b))))))))

-- ---- tokens that end

operator_text : (os : List Operator) (small : List ℕ) (o : Operator) → operator_in os small ≡ Some o → small ≡ keyword o
operator_text [] small o e = absurd cc
operator_text (p ∷ os) small o e =
    elim (cases_Bool (bytes_eq small (keyword p))) [
      | inl is ↦
          let found : Some p ≡ Some o = sym (ap (λ (t : Bool). cond t (Some p) (operator_in os small)) is) ∙ e in
          let same : p ≡ o = cc in
          (bytes_eq-Decides small (keyword p)).0 is ∙ ap keyword same
      | inr is ↦ operator_text os small o (sym (ap (λ (t : Bool). cond t (Some p) (operator_in os small)) is) ∙ e)
    ]

property_text : (v w : List ℕ) (o : Option Operator) → bytes_eq (folded v) (codes "not") ≡ false → operator_in all_ops (folded v) ≡ o → w ≡ v → is_property_name v ≡ true → IsTokenText (or_property v o) w
property_text v w (Some o) free found e is = ap folded e ∙ operator_text all_ops (folded v) o found
property_text v w None apart found e is =
    let free : is_keyword v ≡ false = rw (apart, found) refl in
    (e, is, free)

word_text : (v w : List ℕ) → w ≡ v → is_property_name v ≡ true → IsTokenText (word v) w
word_text v w e is =
    pick (λ (x : Token). IsTokenText x w) (bytes_eq (folded v) (codes "not")) Negate (or_property v (operator_in all_ops (folded v)))
    (λ t. ap folded e ∙ (bytes_eq-Decides (folded v) (codes "not")).0 t) (λ apart. property_text v w (operator_in all_ops (folded v)) apart refl e is)

symbol_text : (k : Mark) (c : ℕ) (cs w : List ℕ) → w ≡ mark_byte k ∷ c ∷ cs → are_name_bytes (c ∷ cs) ≡ true → IsTokenText (Operand (named k (c ∷ cs))) w
symbol_text mark.Variable c cs w e is = (e, is)
symbol_text (mark.State s) c cs w e is = (e, is)

digit_is_no_minus : (d : ℕ) → is_digit d ≡ true → eqb d 45 ≡ false
digit_is_no_minus d e = grind (arith, nat_tests)

integer_text : (negative : Bool) (d : ℕ) (ds : List ℕ) → are_digits (d ∷ ds) ≡ true → integer_of (minus negative (d ∷ ds)) ≡ Some (signed negative (decimal_of (d ∷ ds)))
integer_text true d ds e = ap (λ (t : Bool). cond t (Some (signed true (decimal_of (d ∷ ds)))) None) e
integer_text false d ds e =
    let apart = digit_is_no_minus d (and_true (is_digit d) (are_digits ds) e).0 in
    ap (λ (t : Bool). cond t (digits_of true ds) (digits_of false (d ∷ ds))) apart ∙ ap (λ (t : Bool). cond t (Some (signed false (decimal_of (d ∷ ds)))) None) e

pub left_spelt : (m : Mode) (w : List ℕ) (b : ℕ) → Spelt m w → MoveSpelt w b (left (finished m))
left_spelt Nothing w b s = tt
left_spelt (InWord v) w b s = word_text v w s.0 s.1
left_spelt (InSymbol k []) w b s = tt
left_spelt (InSymbol k (c ∷ cs)) w b s = symbol_text k c cs w s.0 s.1
left_spelt (InLiteral text) w b s = tt
left_spelt AfterMinus w b s = tt
left_spelt (InDigits negative n) w b s =
    ap integer_of s.2 ∙ integer_text negative s.0 s.1 s.3 ∙ ap (λ (k : ℕ). Some (signed negative k)) (sym s.4)
left_spelt AfterTilde w b s = tt
left_spelt (InComparison c) w b s = s

-- ---- tokens that grow

names-push : (v : List ℕ) (b : ℕ) → are_name_bytes v ≡ true → is_name_byte b ≡ true → are_name_bytes (v ++ b ∷ []) ≡ true
names-push [] b e is = rw is refl
names-push (c ∷ cs) b e is = let both = and_true (is_name_byte c) (are_name_bytes cs) e in let here = both.0 in rw here (names-push cs b both.1 is)

property-push : (v : List ℕ) (b : ℕ) → is_property_name v ≡ true → is_name_byte b ≡ true → is_property_name (v ++ b ∷ []) ≡ true
property-push [] b e is = absurd cc
property-push (c ∷ cs) b e is = let both = and_true (is_letter c) (are_name_bytes cs) e in let here = both.0 in rw here (names-push cs b both.1 is)

digits-push : (ds : List ℕ) (b : ℕ) → are_digits ds ≡ true → is_digit b ≡ true → are_digits (ds ++ b ∷ []) ≡ true
digits-push [] b e is = rw is refl
digits-push (d ∷ ds) b e is = let both = and_true (is_digit d) (are_digits ds) e in let here = both.0 in rw here (digits-push ds b both.1 is)

fold-push : (n : ℕ) (ds : List ℕ) (b : ℕ) → fold (λ k c. 10 * k + (c - 48)) n (ds ++ b ∷ []) ≡ 10 * fold (λ k c. 10 * k + (c - 48)) n ds + (b - 48)
fold-push n [] b = refl
fold-push n (d ∷ ds) b = fold-push (10 * n + (d - 48)) ds b

quote-push : (text : List ℕ) (b : ℕ) → has_no_quote text ≡ true → eqb b 34 ≡ false → has_no_quote (text ++ b ∷ []) ≡ true
quote-push [] b e is = rw is refl
quote-push (c ∷ cs) b e is =
    elim (cases_Bool (eqb c 34)) [
      | inl bad ↦ let none : has_no_quote (c ∷ cs) ≡ false = rw bad refl in absurd cc
      | inr fine ↦ let rest : has_no_quote cs ≡ true = sym (ap (λ (t : Bool). cond t false (has_no_quote cs)) fine) ∙ e in rw fine (quote-push cs b rest is)
    ]

word_grows : (v w : List ℕ) (b : ℕ) → Spelt (InWord v) w → is_name_byte b ≡ true → Spelt (InWord (v ++ b ∷ [])) (w ++ b ∷ [])
word_grows v w b s is = (ap (λ (u : List ℕ). u ++ b ∷ []) s.0, property-push v b s.1 is)

symbol_grows : (k : Mark) (v w : List ℕ) (b : ℕ) → Spelt (InSymbol k v) w → is_name_byte b ≡ true → Spelt (InSymbol k (v ++ b ∷ [])) (w ++ b ∷ [])
symbol_grows k v w b s is = (ap (λ (u : List ℕ). u ++ b ∷ []) s.0, names-push v b s.1 is)

literal_grows : (text w : List ℕ) (b : ℕ) → Spelt (InLiteral text) w → eqb b 34 ≡ false → Spelt (InLiteral (text ++ b ∷ [])) (w ++ b ∷ [])
literal_grows text w b s is = (ap (λ (u : List ℕ). u ++ b ∷ []) s.0, quote-push text b s.1 is)

literal_taken : (text w : List ℕ) (b : ℕ) → Spelt (InLiteral text) w → eqb b 34 ≡ true → IsTokenText (Operand (value.Literal text)) (w ++ b ∷ [])
literal_taken text w b s is = (ap (λ (u : List ℕ). u ++ b ∷ []) s.0 ∙ ap (λ (k : ℕ). 34 ∷ text ++ k ∷ []) (eqb-true b 34 is), s.1)

minus-push : (negative : Bool) (ds : List ℕ) (b : ℕ) → minus negative ds ++ b ∷ [] ≡ minus negative (ds ++ b ∷ [])
minus-push true ds b = refl
minus-push false ds b = refl

digits_grow : (negative : Bool) (n : ℕ) (w : List ℕ) (b : ℕ) → Spelt (InDigits negative n) w → is_digit b ≡ true → Spelt (InDigits negative (10 * n + (b - 48))) (w ++ b ∷ [])
digits_grow negative n w b s is = (
  s.0,
  s.1 ++ b ∷ [],
  ap (λ (u : List ℕ). u ++ b ∷ []) s.2 ∙ minus-push negative (s.0 ∷ s.1) b,
  digits-push (s.0 ∷ s.1) b s.3 is,
  ap (λ (k : ℕ). 10 * k + (b - 48)) s.4 ∙ sym (fold-push 0 (s.0 ∷ s.1) b),
)

minus_grows : (w : List ℕ) (b : ℕ) → w ≡ 45 ∷ [] → is_digit b ≡ true → Spelt (InDigits true (b - 48)) (w ++ b ∷ [])
minus_grows w b s is = (b, [], ap (λ (u : List ℕ). u ++ b ∷ []) s, rw is refl, first_digit b)

tilde_grows : (w : List ℕ) (b : ℕ) → w ≡ 126 ∷ [] → MoveSpelt w b (compares true Wrong (relation_by b))
tilde_grows w b s =
    let P : Option Relation → Type 0 = λ o. MoveSpelt w b (compares true Wrong o) in
    let text : (c : ℕ) → eqb b c ≡ true → w ++ b ∷ [] ≡ 126 ∷ c ∷ [] = λ c e. ap (λ (u : List ℕ). u ++ b ∷ []) s ∙ ap (λ (k : ℕ). 126 ∷ k ∷ []) (eqb-true b c e) in
    pick P (eqb b 61) (Some relation.Equal) _ (text 61) (λ _.
    pick P (eqb b 60) (Some relation.Less) _ (text 60) (λ _.
    pick P (eqb b 62) (Some relation.Greater) None (text 62) (λ _. tt)))

-- the longer operator's text
abbrev Longer : Relation → ℕ → Option Relation → Type 0
Longer r b None = Unit {0}
Longer r b (Some q) = relation_text r ++ b ∷ [] ≡ relation_text q

second_byte : (a b c : ℕ) → eqb b c ≡ true → a ∷ b ∷ [] ≡ a ∷ c ∷ []
second_byte a b c e = ap (λ (k : ℕ). a ∷ k ∷ []) (eqb-true b c e)

longer : (r : Relation) (b : ℕ) → Longer r b (relation_with r b)
longer relation.Less b =
    let P : Option Relation → Type 0 = Longer relation.Less b in
    pick P (eqb b 61) (Some relation.LessOrEqual) _ (second_byte 60 b 61) (λ _.
    pick P (eqb b 60) (Some relation.BeginsWith) _ (second_byte 60 b 60) (λ _.
    pick P (eqb b 62) (Some relation.NotEqual) None (second_byte 60 b 62) (λ _. tt)))
longer relation.Greater b =
    let P : Option Relation → Type 0 = Longer relation.Greater b in
    pick P (eqb b 61) (Some relation.GreaterOrEqual) _ (second_byte 62 b 61) (λ _.
    pick P (eqb b 60) (Some relation.Contains) _ (second_byte 62 b 60) (λ _.
    pick P (eqb b 62) (Some relation.EndsWith) None (second_byte 62 b 62) (λ _. tt)))
longer relation.Equal b = tt
longer relation.NotEqual b = tt
longer relation.GreaterOrEqual b = tt
longer relation.LessOrEqual b = tt
longer relation.Contains b = tt
longer relation.BeginsWith b = tt
longer relation.EndsWith b = tt

comparison_longer : (folds : Bool) (r q : Relation) (b : ℕ) → relation_text r ++ b ∷ [] ≡ relation_text q → comparison_text (record { relation = r; folds = folds }) ++ b ∷ [] ≡ comparison_text (record { relation = q; folds = folds })
comparison_longer true r q b e = ap (λ (u : List ℕ). 126 ∷ u) e
comparison_longer false r q b e = e

comparison_grows : (c : Comparison) (w : List ℕ) (b : ℕ) (o : Option Relation) → w ≡ comparison_text c → Longer c.relation b o → MoveSpelt w b (compares c.folds (left (finished (InComparison c))) o)
comparison_grows c w b None s l = s
comparison_grows c w b (Some q) s l = ap (λ (u : List ℕ). u ++ b ∷ []) s ∙ comparison_longer c.folds c.relation q b l

abbrev pub IsToken : Mode → Type 0
IsToken Nothing = ⊥
IsToken (InWord v) = Unit {0}
IsToken (InSymbol k v) = Unit {0}
IsToken (InLiteral text) = Unit {0}
IsToken AfterMinus = Unit {0}
IsToken (InDigits negative n) = Unit {0}
IsToken AfterTilde = Unit {0}
IsToken (InComparison c) = Unit {0}

pub move_spelt : (m : Mode) (w : List ℕ) (b : ℕ) → IsToken m → Spelt m w → MoveSpelt w b (move m b)
move_spelt Nothing w b is s = absurd is
move_spelt (InWord v) w b is s = pick (MoveSpelt w b) (is_name_byte b) (Grows (InWord (v ++ b ∷ []))) (left (finished (InWord v))) (word_grows v w b s) (λ _. left_spelt (InWord v) w b s)
move_spelt (InSymbol k v) w b is s = pick (MoveSpelt w b) (is_name_byte b) (Grows (InSymbol k (v ++ b ∷ []))) (left (finished (InSymbol k v))) (symbol_grows k v w b s) (λ _. left_spelt (InSymbol k v) w b s)
move_spelt (InLiteral text) w b is s = pick (MoveSpelt w b) (eqb b 34) (Takes (Operand (value.Literal text))) (Grows (InLiteral (text ++ b ∷ []))) (literal_taken text w b s) (literal_grows text w b s)
move_spelt AfterMinus w b is s = pick (MoveSpelt w b) (is_digit b) (Grows (InDigits true (b - 48))) Wrong (minus_grows w b s) (λ _. tt)
move_spelt (InDigits negative n) w b is s =
    pick (MoveSpelt w b) (is_digit b) (Grows (InDigits negative (10 * n + (b - 48)))) (left (finished (InDigits negative n))) (digits_grow negative n w b s) (λ _. left_spelt (InDigits negative n) w b s)
move_spelt AfterTilde w b is s = tilde_grows w b s
move_spelt (InComparison c) w b is s = comparison_grows c w b (relation_with c.relation b) s (longer c.relation b)
