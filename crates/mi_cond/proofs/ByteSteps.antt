-- The machine byte by byte reads what the machine token by token reads.
use Rattle.std.proofs.Common.{◌≡◌, ℕ, ◌+◌, ◌*◌, ◌-◌, eqb, leb, Bool, true, false, cond, ◌||◌, ◌&&◌, List, [], ◌∷◌, ◌++◌, Option, Some, None, refl, sym, ap, ◌∙◌, arith, inl, inr, ◌⊎◌}
use Rattle.std.specs.Prelude.{option_and_then, option_map, codes, zero, suc, nat_abs}
use Rattle.std.specs.Str.{bytes_eq}
use Rattle.std.proofs.lemmas.Bool.{cases_Bool}
use Rattle.std.proofs.lemmas.Bool.Decides.{nat_tests}
use Rattle.std.proofs.lemmas.Slice.Eq.{bytes_eq-Decides}
use Rattle.std.proofs.lemmas.List.{map-append}
use Rattle.std.specs.Char.{to_ascii_lowercase}
use Rattle.mi_text.specs.Fold.{folded}
use Rattle.mi_cond.proofs.Basics.{or_false}
use Rattle.mi_cond.specs.declared.operand.Operator.{Operator}
use Rattle.mi_cond.specs.declared.operand.Relation.{Relation}
use Rattle.mi_cond.specs.declared.operand.Comparison.{Comparison}
use Rattle.mi_cond.specs.declared.operand.Value.{Value}
use Rattle.mi_cond.specs.declared.operand.Value.TheVariants as value
use Rattle.mi_cond.specs.declared.token.Mark.{Mark}
use Rattle.mi_cond.specs.declared.token.Token.{Token}
use Rattle.mi_cond.specs.declared.token.Token.TheVariants.{Negate, Operand, Compare as Compares}
use Rattle.mi_cond.specs.Tree.{Tree}
use Rattle.mi_cond.specs.Integer.{is_digit, signed}
use Rattle.mi_cond.specs.Lex.{is_name_byte, keyword, all_ops, operator_in, is_good}
use Rattle.mi_cond.specs.Steps.{State, Wants, HasValue, WantsRight, Has, step, wants_value, has_value}
use Rattle.mi_cond.specs.Moves.{Mode, Nothing, InWord, InSymbol, InLiteral, AfterMinus, InDigits, AfterTilde, InComparison, Move, Grows, Takes, Leaves, Wrong, named, relation_by, relation_with, finished, left, compares, begin, move, Place, begins_with, begins_operator, may_stand, within, between, or_property, word}
use Rattle.mi_cond.proofs.Runs.{limited, step_to, run}
use Rattle.mi_cond.proofs.Lexer.{then_token, first, after_move, one_token, ended, tokens_in, first_to, after_to, byte_to, bytes_to, read}

pub pick : {A : Type 0} (P : A → Type 0) (b : Bool) (x y : A) → (b ≡ true → P x) → (b ≡ false → P y) → P (cond b x y)
pick P true x y f g = f refl
pick P false x y f g = g refl

-- ---- a token that may not stand here is never read

-- after a move nothing can be read
abbrev DeadMove : State → Move → Type 0
DeadMove s (Grows m) = may_stand s m ≡ false
DeadMove s (Takes x) = step s x ≡ None
DeadMove s (Leaves x) = step s x ≡ None
DeadMove s Wrong = Unit {0}

value_dead : (s : State) (v : Value) → wants_value s ≡ false → step s (Operand v) ≡ None
value_dead (Wants below f) v e = absurd cc
value_dead (HasValue below f w) v e = refl
value_dead (WantsRight below f l c) v e = absurd cc
value_dead (Has below rows t) v e = refl

compare_dead : (s : State) (c : Comparison) → has_value s ≡ false → step s (Compares c) ≡ None
compare_dead (Wants below f) c e = refl
compare_dead (HasValue below f w) c e = absurd cc
compare_dead (WantsRight below f l d) c e = refl
compare_dead (Has below rows t) c e = refl

bad_dead : (s : State) (v : Value) → is_good v ≡ false → step s (Operand v) ≡ None
bad_dead (Wants below f) v e = rw e refl
bad_dead (HasValue below f w) v e = refl
bad_dead (WantsRight below f l c) v e = rw e refl
bad_dead (Has below rows t) v e = refl

both_false : (a b : Bool) → a ≡ false → b ≡ false → (a || b) ≡ false
both_false a b e f = rw (e, f) refl

and_left : (a b : Bool) → a ≡ false → (a && b) ≡ false
and_left a b e = rw e refl

and_right : (a b : Bool) → b ≡ false → (a && b) ≡ false
and_right true b e = e
and_right false b e = refl

and_false : (a b : Bool) → (a && b) ≡ false → (a ≡ false) ⊎ (b ≡ false)
and_false true b e = inr e
and_false false b e = inl refl

if_false : (b c d : Bool) → (c ≡ false → d ≡ false) → cond b c false ≡ false → cond b d false ≡ false
if_false true c d h e = h e
if_false false c d h e = refl

not_begin : (xs ys zs : List ℕ) → begins_with xs ys ≡ false → begins_with xs (ys ++ zs) ≡ false
not_begin xs [] zs e = absurd cc
not_begin [] (y ∷ ys) zs e = refl
not_begin (x ∷ xs) (y ∷ ys) zs e = if_false (eqb x y) (begins_with xs ys) (begins_with xs (ys ++ zs)) (not_begin xs ys zs) e

no_operator_grows : (os : List Operator) (small more : List ℕ) → begins_operator os small ≡ false → begins_operator os (small ++ more) ≡ false
no_operator_grows [] small more e = refl
no_operator_grows (o ∷ os) small more e =
    let f = or_false (begins_with (keyword o) small) (begins_operator os small) e in
    both_false (begins_with (keyword o) (small ++ more)) (begins_operator os (small ++ more)) (not_begin (keyword o) small more f.0) (no_operator_grows os small more f.1)

begins_itself : (xs : List ℕ) → begins_with xs xs ≡ true
begins_itself [] = refl
begins_itself (x ∷ xs) = let same : eqb x x ≡ true = grind (arith, nat_tests) in rw same (begins_itself xs)

no_operator : (os : List Operator) (small : List ℕ) → begins_operator os small ≡ false → operator_in os small ≡ None
no_operator [] small e = refl
no_operator (o ∷ os) small e =
    let f = or_false (begins_with (keyword o) small) (begins_operator os small) e in
    elim (cases_Bool (bytes_eq small (keyword o))) [
      | inl is ↦
          let same : small ≡ keyword o = (bytes_eq-Decides small (keyword o)).0 is in
          let k : begins_with (keyword o) small ≡ true = ap (begins_with (keyword o)) same ∙ begins_itself (keyword o) in absurd cc
      | inr is ↦ rw is (no_operator os small f.1)
    ]

not_negate : (s : State) → wants_value s ≡ false → step s Negate ≡ None
not_negate (Wants below f) e = absurd cc
not_negate (HasValue below f w) e = refl
not_negate (WantsRight below f l c) e = absurd cc
not_negate (Has below rows t) e = refl

word_dead : (s : State) (w : List ℕ) → may_stand s (InWord w) ≡ false → step s (word w) ≡ None
word_dead s w e =
    let o = or_false (wants_value s) (begins_operator all_ops (folded w)) e in
    let nothing : or_property w (operator_in all_ops (folded w)) ≡ Operand (value.Property w) = ap (or_property w) (no_operator all_ops (folded w) o.1) in
    pick (λ (x : Token). step s x ≡ None) (bytes_eq (folded w) (codes "not")) Negate (or_property w (operator_in all_ops (folded w))) (λ _. not_negate s o.0) (λ _. ap (step s) nothing ∙ value_dead s (value.Property w) o.0)

word_stays_dead : (s : State) (w more : List ℕ) → may_stand s (InWord w) ≡ false → may_stand s (InWord (w ++ more)) ≡ false
word_stays_dead s w more e =
    let o = or_false (wants_value s) (begins_operator all_ops (folded w)) e in
    let grown : folded (w ++ more) ≡ folded w ++ folded more = map-append to_ascii_lowercase w more in
    both_false (wants_value s) (begins_operator all_ops (folded (w ++ more))) o.0 (ap (begins_operator all_ops) grown ∙ no_operator_grows all_ops (folded w) (folded more) o.1)

pub nat_abs-signed : (negative : Bool) (n : ℕ) → nat_abs (signed negative n) ≡ n
nat_abs-signed true zero = refl
nat_abs-signed true (suc n) = refl
nat_abs-signed false n = refl

digits_dead : (s : State) (negative : Bool) (n : ℕ) → may_stand s (InDigits negative n) ≡ false → step s (Operand (value.Integer (signed negative n))) ≡ None
digits_dead s negative n e =
    elim (and_false (wants_value s) (leb n 2147483647) e) [
      | inl w ↦ value_dead s (value.Integer (signed negative n)) w
      | inr big ↦ bad_dead s (value.Integer (signed negative n)) (ap (λ (k : ℕ). leb k 2147483647) (nat_abs-signed negative n) ∙ big)
    ]

bigger : (n d : ℕ) → leb n 2147483647 ≡ false → leb (10 * n + d) 2147483647 ≡ false
bigger n d e = grind (arith, nat_tests)

digits_stay_dead : (s : State) (negative : Bool) (n d : ℕ) → may_stand s (InDigits negative n) ≡ false → may_stand s (InDigits negative (10 * n + d)) ≡ false
digits_stay_dead s negative n d e =
    elim (and_false (wants_value s) (leb n 2147483647) e) [
      | inl w ↦ and_left (wants_value s) (leb (10 * n + d) 2147483647) w
      | inr big ↦ and_right (wants_value s) (leb (10 * n + d) 2147483647) (bigger n d big)
    ]

symbol_dead : (s : State) (k : Mark) (w : List ℕ) → wants_value s ≡ false → DeadMove s (left (finished (InSymbol k w)))
symbol_dead s k [] e = tt
symbol_dead s k (b ∷ bs) e = value_dead s (named k (b ∷ bs)) e

left_dead : (s : State) (m : Mode) → may_stand s m ≡ false → DeadMove s (left (finished m))
left_dead s Nothing e = tt
left_dead s (InWord w) e = word_dead s w e
left_dead s (InSymbol k w) e = symbol_dead s k w e
left_dead s (InLiteral text) e = tt
left_dead s AfterMinus e = tt
left_dead s (InDigits negative n) e = digits_dead s negative n e
left_dead s AfterTilde e = tt
left_dead s (InComparison c) e = compare_dead s c e

compares_dead : (s : State) (folds : Bool) (other : Move) (o : Option Relation) → has_value s ≡ false → DeadMove s other → DeadMove s (compares folds other o)
compares_dead s folds other None e d = d
compares_dead s folds other (Some r) e d = e

move_dead : (s : State) (m : Mode) (b : ℕ) → may_stand s m ≡ false → DeadMove s (move m b)
move_dead s Nothing b e = absurd cc
move_dead s (InWord w) b e = pick (DeadMove s) (is_name_byte b) (Grows (InWord (w ++ b ∷ []))) (left (finished (InWord w))) (λ _. word_stays_dead s w (b ∷ []) e) (λ _. word_dead s w e)
move_dead s (InSymbol k w) b e = pick (DeadMove s) (is_name_byte b) (Grows (InSymbol k (w ++ b ∷ []))) (left (finished (InSymbol k w))) (λ _. e) (λ _. symbol_dead s k w e)
move_dead s (InLiteral text) b e = pick (DeadMove s) (eqb b 34) (Takes (Operand (value.Literal text))) (Grows (InLiteral (text ++ b ∷ []))) (λ _. value_dead s (value.Literal text) e) (λ _. e)
move_dead s AfterMinus b e = pick (DeadMove s) (is_digit b) (Grows (InDigits true (b - 48))) Wrong (λ _. and_left (wants_value s) (leb (b - 48) 2147483647) e) (λ _. tt)
move_dead s (InDigits negative n) b e =
    pick (DeadMove s) (is_digit b) (Grows (InDigits negative (10 * n + (b - 48)))) (left (finished (InDigits negative n))) (λ _. digits_stay_dead s negative n (b - 48) e) (λ _. digits_dead s negative n e)
move_dead s AfterTilde b e = compares_dead s true Wrong (relation_by b) e tt
move_dead s (InComparison c) b e = compares_dead s c.folds (left (finished (InComparison c))) (relation_with c.relation b) e (compare_dead s c e)

none_each : (o : Option State) → option_and_then {U = Tree} (λ n. None) o ≡ None
none_each None = refl
none_each (Some n) = refl

map_then : (limit : ℕ) (s : State) (x : Token) (o : Option (List Token)) → option_and_then (run limit s) (then_token x o) ≡ option_and_then (λ n. option_and_then (run limit n) o) (step_to limit s x)
map_then limit s x None = sym (none_each (step_to limit s x))
map_then limit s x (Some ts) = refl

dead_token : (limit : ℕ) (s : State) (x : Token) (o : Option (List Token)) → step s x ≡ None → option_and_then (run limit s) (then_token x o) ≡ None
dead_token limit s x o e = map_then limit s x o ∙ ap (λ (p : Option State). option_and_then (λ n. option_and_then (run limit n) o) (option_and_then (limited limit) p)) e

dead_one : (limit : ℕ) (s : State) (o : Option Token) → DeadMove s (left o) → option_and_then (run limit s) (one_token o) ≡ None
dead_one limit s None d = refl
dead_one limit s (Some x) d = dead_token limit s x (Some []) d

dead_end : (limit : ℕ) (s : State) (m : Mode) → may_stand s m ≡ false → option_and_then (run limit s) (ended m) ≡ None
dead_end limit s Nothing e = absurd cc
dead_end limit s (InWord w) e = dead_one limit s (finished (InWord w)) (left_dead s (InWord w) e)
dead_end limit s (InSymbol k w) e = dead_one limit s (finished (InSymbol k w)) (left_dead s (InSymbol k w) e)
dead_end limit s (InLiteral text) e = refl
dead_end limit s AfterMinus e = refl
dead_end limit s (InDigits negative n) e = dead_one limit s (finished (InDigits negative n)) (left_dead s (InDigits negative n) e)
dead_end limit s AfterTilde e = refl
dead_end limit s (InComparison c) e = dead_one limit s (finished (InComparison c)) (left_dead s (InComparison c) e)

dead_after : (limit : ℕ) (s : State) (b : ℕ) (k : Mode → Option (List Token)) (v : Move) → DeadMove s v → ((m : Mode) → may_stand s m ≡ false → option_and_then (run limit s) (k m) ≡ None) → option_and_then (run limit s) (after_move k b v) ≡ None
dead_after limit s b k (Grows m) d h = h m d
dead_after limit s b k (Takes x) d h = dead_token limit s x (k Nothing) d
dead_after limit s b k (Leaves x) d h = dead_token limit s x (first k (begin b)) d
dead_after limit s b k Wrong d h = refl

dead : (limit : ℕ) (s : State) (m : Mode) (bs : List ℕ) → may_stand s m ≡ false → option_and_then (run limit s) (tokens_in m bs) ≡ None
dead limit s m [] e = dead_end limit s m e
dead limit s m (b ∷ bs) e = dead_after limit s b (λ n. tokens_in n bs) (move m b) (move_dead s m b e) (λ n d. dead limit s n bs d)

-- ---- one byte

within-read : (limit : ℕ) (s : State) (m : Mode) (bs : List ℕ) → option_and_then (run limit s) (tokens_in m bs) ≡ option_and_then (λ q. read limit q bs) (within s m)
within-read limit s m bs =
    elim (cases_Bool (may_stand s m)) [
      | inl may ↦ rw may refl
      | inr not_may ↦ let none : within s m ≡ None = rw not_may refl in dead limit s m bs not_may ∙ sym (ap (option_and_then (λ (q : Place). read limit q bs)) none)
    ]

between-read : (limit : ℕ) (o : Option State) (bs : List ℕ) → option_and_then (λ n. option_and_then (run limit n) (tokens_in Nothing bs)) o ≡ option_and_then (λ q. read limit q bs) (option_map between o)
between-read limit None bs = refl
between-read limit (Some n) bs = refl

first-read : (limit : ℕ) (s : State) (v : Move) (bs : List ℕ) → option_and_then (run limit s) (first (λ n. tokens_in n bs) v) ≡ option_and_then (λ q. read limit q bs) (first_to limit s v)
first-read limit s (Grows m) bs = within-read limit s m bs
first-read limit s (Takes x) bs = map_then limit s x (tokens_in Nothing bs) ∙ between-read limit (step_to limit s x) bs
first-read limit s (Leaves x) bs = refl
first-read limit s Wrong bs = refl

each-read : (limit : ℕ) (o : Option State) (b : ℕ) (bs : List ℕ) → option_and_then (λ n. option_and_then (run limit n) (first (λ m. tokens_in m bs) (begin b))) o ≡ option_and_then (λ q. read limit q bs) (option_and_then (λ n. first_to limit n (begin b)) o)
each-read limit None b bs = refl
each-read limit (Some n) b bs = first-read limit n (begin b) bs

after-read : (limit : ℕ) (s : State) (b : ℕ) (v : Move) (bs : List ℕ) → option_and_then (run limit s) (after_move (λ n. tokens_in n bs) b v) ≡ option_and_then (λ q. read limit q bs) (after_to limit s b v)
after-read limit s b (Grows m) bs = within-read limit s m bs
after-read limit s b (Takes x) bs = map_then limit s x (tokens_in Nothing bs) ∙ between-read limit (step_to limit s x) bs
after-read limit s b (Leaves x) bs = map_then limit s x (first (λ n. tokens_in n bs) (begin b)) ∙ each-read limit (step_to limit s x) b bs
after-read limit s b Wrong bs = refl

through : (limit : ℕ) (o : Option Place) (xs bs : List ℕ) → ((q : Place) → read limit q (xs ++ bs) ≡ option_and_then (λ r. read limit r bs) (bytes_to limit q xs))
    → option_and_then (λ q. read limit q (xs ++ bs)) o ≡ option_and_then (λ r. read limit r bs) (option_and_then (λ q. bytes_to limit q xs) o)
through limit None xs bs h = refl
through limit (Some q) xs bs h = h q

-- a front that the machine took, and what is read behind it
pub bytes-read : (limit : ℕ) (p : Place) (xs bs : List ℕ) → read limit p (xs ++ bs) ≡ option_and_then (λ q. read limit q bs) (bytes_to limit p xs)
bytes-read limit p [] bs = refl
bytes-read limit p (x ∷ xs) bs = after-read limit p.state x (move p.mode x) (xs ++ bs) ∙ through limit (byte_to limit p x) xs bs (λ q. bytes-read limit q xs bs)
