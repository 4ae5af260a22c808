-- The functions that read the front of a text find what stands there.
use Rattle.std.proofs.Common.{◌≡◌, ℕ, zero, suc, ◌+◌, ◌*◌, ◌-◌, ◌<◌, ◌≤◌, leb, eqb, Bool, true, false, cond, ◌&&◌, length, take, drop, get_or, List, [], ◌∷◌, Some, None, refl, sym, ap, subst, ◌∙◌, arith, inl, inr}
use Rattle.std.specs.Prelude.{nat_lt}
use Rattle.std.proofs.lemmas.Bool.{cases_Bool, cases_eq, eqb-true, le-leb, lt-leb}
use Rattle.std.proofs.lemmas.Bool.Decides.{nat_tests}
use Rattle.std.proofs.lemmas.List.{drop_more, drop_all, length-drop, length-map, take-map}
use Rattle.std.specs.Char.{to_ascii_lowercase}
use Rattle.std.specs.List.{list_all}
use Rattle.std.specs.Str.{IsAscii, bytes_eq}
use Rattle.mi_text.specs.Fold.{folded}
use Rattle.mi_cond.proofs.Basics.{and_true}
use Rattle.mi_cond.specs.declared.operand.Value.TheVariants as value
use Rattle.mi_cond.specs.declared.token.Mark.{Mark}
use Rattle.mi_cond.specs.declared.token.Token.{Token}
use Rattle.mi_cond.specs.declared.token.Token.TheVariants.{Operand}
use Rattle.mi_cond.specs.declared.front.Front.{Front}
use Rattle.mi_cond.specs.declared.front.Front.TheVariants as front
use Rattle.mi_cond.proofs.Lexis.{begin-letter}
use Rattle.mi_cond.specs.Integer.{is_digit, signed}
use Rattle.mi_cond.specs.Lex.{is_blank, is_letter, is_name_byte, are_name_bytes, all_ops}
use Rattle.mi_cond.specs.Steps.{State, Wants, HasValue, WantsRight, Has, wants_value, has_value}
use Rattle.mi_cond.specs.Moves.{Mode, InWord, InSymbol, InLiteral, InDigits, Move, Grows, Wrong, named, begins_with, begin, word, begins_operator, may_stand, within, first_at}
use Rattle.mi_cond.specs.Fronts.{front_length, is_plain, Follows, IsAt, WantsValue, WantsOperator, digits_front}
use Rattle.mi_cond.proofs.FrontLaws.{begins_at, in_mode, literal_dies, literal_is, operator_dies, refused_at, symbol_dies, symbol_is, word_is}

-- ---- loops over bytes

pub length_here : (test : ℕ → Bool) (bs : List ℕ) (i : ℕ) → i < length bs → test (get_or bs i 0) ≡ false → front_length test bs ≡ i + front_length test (drop i bs) → i ≡ front_length test bs
length_here test bs i lt misses e =
    let none : front_length test (drop i bs) ≡ zero = ap (front_length test) (drop_more bs i 0 lt) ∙ ap (λ (t : Bool). cond t (suc (front_length test (drop (i + 1) bs))) zero) misses in
    omega arith

pub length_more : (test : ℕ → Bool) (bs : List ℕ) (i : ℕ) → i < length bs → test (get_or bs i 0) ≡ true → front_length test bs ≡ i + front_length test (drop i bs) → front_length test bs ≡ i + 1 + front_length test (drop (i + 1) bs)
length_more test bs i lt is e =
    let one : front_length test (drop i bs) ≡ suc (front_length test (drop (i + 1) bs)) = ap (front_length test) (drop_more bs i 0 lt) ∙ ap (λ (t : Bool). cond t (suc (front_length test (drop (i + 1) bs))) zero) is in
    omega arith

pub length_end : (test : ℕ → Bool) (bs : List ℕ) (i : ℕ) → i ≤ length bs → length bs ≤ i → front_length test bs ≡ i + front_length test (drop i bs) → length bs ≡ front_length test bs
length_end test bs i le ge e = let none : front_length test (drop i bs) ≡ zero = ap (front_length test) (drop_all i bs ge) in omega arith

-- digits so far
pub record DigitsTo (negative : Bool) (rest : List ℕ) (from i size : ℕ) : Type 0 where
  pub same : digits_front negative 0 from (drop from rest) ≡ digits_front negative size (from + i) (drop i (drop from rest))
  pub small : size ≤ 2147483647

pub digits_none : (negative : Bool) (rest : List ℕ) (from : ℕ) → DigitsTo negative rest from 0 0
digits_none negative rest from =
    let here : from ≡ from + 0 = omega arith in
    record { same = ap (λ (n : ℕ). digits_front negative 0 n (drop from rest)) here; small = omega arith }

digits_step : (negative : Bool) (rest : List ℕ) (from i size : ℕ) → i < length (drop from rest) → DigitsTo negative rest from i size
    → digits_front negative 0 from (drop from rest) ≡ digits_front negative size (from + i) (get_or (drop from rest) i 0 ∷ drop (i + 1) (drop from rest))
digits_step negative rest from i size lt d = d.same ∙ ap (digits_front negative size (from + i)) (drop_more (drop from rest) i 0 lt)

pub digits_here : (negative : Bool) (rest : List ℕ) (from i size : ℕ) → i < length (drop from rest) → DigitsTo negative rest from i size → is_digit (get_or (drop from rest) i 0) ≡ false
    → front.Token (Operand (value.Integer (signed negative size))) (from + i) ≡ digits_front negative 0 from (drop from rest)
digits_here negative rest from i size lt d misses =
    let bs : List ℕ = drop from rest in
    let larger : ℕ = 10 * size + (get_or bs i 0 - 48) in
    sym (digits_step negative rest from i size lt d
    ∙ ap (λ (t : Bool). cond t (cond (leb larger 2147483647) (digits_front negative larger (from + i + 1) (drop (i + 1) bs)) (front.Dead (from + i))) (front.Token (Operand (value.Integer (signed negative size))) (from + i))) misses)

digits_digit : (negative : Bool) (rest : List ℕ) (from i size : ℕ) (t : Bool) → i < length (drop from rest) → DigitsTo negative rest from i size → is_digit (get_or (drop from rest) i 0) ≡ true → leb (10 * size + (get_or (drop from rest) i 0 - 48)) 2147483647 ≡ t
    → digits_front negative 0 from (drop from rest) ≡ cond t (digits_front negative (10 * size + (get_or (drop from rest) i 0 - 48)) (from + i + 1) (drop (i + 1) (drop from rest))) (front.Dead (from + i))
digits_digit negative rest from i size t lt d is fits =
    let bs : List ℕ = drop from rest in
    let larger : ℕ = 10 * size + (get_or bs i 0 - 48) in
    digits_step negative rest from i size lt d
    ∙ ap (λ (u : Bool). cond u (cond (leb larger 2147483647) (digits_front negative larger (from + i + 1) (drop (i + 1) bs)) (front.Dead (from + i))) (front.Token (Operand (value.Integer (signed negative size))) (from + i))) is
    ∙ ap (λ (u : Bool). cond u (digits_front negative larger (from + i + 1) (drop (i + 1) bs)) (front.Dead (from + i))) fits

pub digits_larger : (negative : Bool) (rest : List ℕ) (from i size : ℕ) → i < length (drop from rest) → DigitsTo negative rest from i size → is_digit (get_or (drop from rest) i 0) ≡ true → 2147483647 < 10 * size + (get_or (drop from rest) i 0 - 48)
    → front.Dead (from + i) ≡ digits_front negative 0 from (drop from rest)
digits_larger negative rest from i size lt d is large = sym (digits_digit negative rest from i size false lt d is (lt-leb _ _ large))

pub digits_more : (negative : Bool) (rest : List ℕ) (from i size : ℕ) → i < length (drop from rest) → DigitsTo negative rest from i size → is_digit (get_or (drop from rest) i 0) ≡ true → 10 * size + (get_or (drop from rest) i 0 - 48) ≤ 2147483647
    → DigitsTo negative rest from (i + 1) (10 * size + (get_or (drop from rest) i 0 - 48))
digits_more negative rest from i size lt d is small =
    let place : from + i + 1 ≡ from + (i + 1) = omega arith in
    let larger : ℕ = 10 * size + (get_or (drop from rest) i 0 - 48) in
    record {
      same = digits_digit negative rest from i size true lt d is (le-leb _ _ small) ∙ ap (λ (n : ℕ). digits_front negative larger n (drop (i + 1) (drop from rest))) place;
      small = small;
    }

pub digits_end : (negative : Bool) (rest : List ℕ) (from i size : ℕ) → from ≤ length rest → i ≤ length (drop from rest) → length (drop from rest) ≤ i → DigitsTo negative rest from i size
    → front.Token (Operand (value.Integer (signed negative size))) (length rest) ≡ digits_front negative 0 from (drop from rest)
digits_end negative rest from i size within le ge d =
    let place : from + i ≡ length rest = omega (arith, length-drop from rest) in
    sym (d.same ∙ ap (digits_front negative size (from + i)) (drop_all i (drop from rest) ge) ∙ ap (λ (n : ℕ). front.Token (Operand (value.Integer (signed negative size))) n) place)

-- ---- names are ASCII

pub names_ascii : (bs : List ℕ) → are_name_bytes bs ≡ true → IsAscii bs
names_ascii [] e = λ i. omega arith
names_ascii (b ∷ bs) e =
    let both = and_true (is_name_byte b) (are_name_bytes bs) e in
    λ i. by i (names_ascii bs both.1) both.0
  where
    by : (i : ℕ) → IsAscii bs → is_name_byte b ≡ true → get_or (b ∷ bs) i 0 < 128
    by zero more is = grind (arith, nat_tests)
    by (suc i) more is = more i

named_front : (test : ℕ → Bool) (bs : List ℕ) → list_all test (take (front_length test bs) bs) ≡ true
named_front test [] = refl
named_front test (b ∷ bs) =
    elim (cases_Bool (test b)) [
      | inl is ↦ ap (λ (t : Bool). list_all test (take (cond t (suc (front_length test bs)) zero) (b ∷ bs))) is ∙ ap (λ (t : Bool). t && list_all test (take (front_length test bs) bs)) is ∙ named_front test bs
      | inr misses ↦ ap (λ (t : Bool). list_all test (take (cond t (suc (front_length test bs)) zero) (b ∷ bs))) misses
    ]

-- a text whose length is the length of a front
pub front_is_name : (bs : List ℕ) (n : ℕ) → n ≡ front_length is_name_byte bs → are_name_bytes (take n bs) ≡ true
front_is_name bs n e = ap (λ (k : ℕ). are_name_bytes (take k bs)) e ∙ named_front is_name_byte bs

-- ---- fronts of keywords

pub begins_so : (xs ys : List ℕ) → length ys ≤ length xs → begins_with xs ys ≡ bytes_eq (take (length ys) xs) ys
begins_so xs [] le = refl
begins_so [] (y ∷ ys) le = absurd (omega arith)
begins_so (x ∷ xs) (y ∷ ys) le = ap (λ (t : Bool). cond (eqb x y) t false) (begins_so xs ys (omega arith)) ∙ same (eqb x y) (bytes_eq (take (length ys) xs) ys)
  where
    same : (a b : Bool) → cond a b false ≡ (a && b)
    same true b = refl
    same false b = refl

pub too_long : (xs ys : List ℕ) → length xs < length ys → begins_with xs ys ≡ false
too_long xs [] lt = absurd (omega arith)
too_long [] (y ∷ ys) lt = refl
too_long (x ∷ xs) (y ∷ ys) lt = ap (λ (t : Bool). cond (eqb x y) t false) (too_long xs ys (omega arith)) ∙ none (eqb x y)
  where
    none : (a : Bool) → cond a false false ≡ false
    none true = refl
    none false = refl

pub begins_taken : (word front : List ℕ) → length front ≤ length word → bytes_eq (folded (take (length front) word)) (folded front) ≡ begins_with (folded word) (folded front)
begins_taken word front le =
    let same : length (folded front) ≡ length front = length-map front to_ascii_lowercase in
    let long : length (folded word) ≡ length word = length-map word to_ascii_lowercase in
    ap (λ (xs : List ℕ). bytes_eq xs (folded front)) (sym (take-map to_ascii_lowercase (length front) word) ∙ ap (λ (n : ℕ). take n (folded word)) (sym same)) ∙ sym (begins_so (folded word) (folded front) (omega arith))

pub begins_none : (word front : List ℕ) → length word < length front → leb (length front) (length word) ≡ begins_with (folded word) (folded front)
begins_none word front lt =
    let same : length (folded front) ≡ length front = length-map front to_ascii_lowercase in
    let long : length (folded word) ≡ length word = length-map word to_ascii_lowercase in
    lt-leb _ _ lt ∙ sym (too_long (folded word) (folded front) (omega arith))

-- ---- what the functions find

pub literal_found : (rest text literal : List ℕ) (n : ℕ) → 0 < length rest → text ≡ drop 1 rest → n < length text → eqb (get_or text n 0) 34 ≡ true → ((k : ℕ) → k < n → (eqb (get_or text k 0) 34 ≡ true → ⊥)) → literal ≡ take n text
    → Follows 1 (InLiteral []) WantsValue rest (front.Token (Operand (value.Literal literal)) (n + 2))
literal_found rest text literal n some same lt is misses e =
    let P : List ℕ → Type 0 = λ t. (n < length t) → (eqb (get_or t n 0) 34 ≡ true) → ((k : ℕ) → k < n → (eqb (get_or t k 0) 34 ≡ true → ⊥)) → Follows 1 (InLiteral []) WantsValue rest (front.Token (Operand (value.Literal (take n t))) (n + 2)) in
    let base : P (drop 1 rest) = λ lt is misses. literal_is rest n some lt (eqb-true _ _ is) misses in
    subst (λ (l : List ℕ). Follows 1 (InLiteral []) WantsValue rest (front.Token (Operand (value.Literal l)) (n + 2))) (sym e) ((subst P (sym same) base) lt is misses)

pub literal_lost : (rest text : List ℕ) → 0 < length rest → text ≡ drop 1 rest → ((k : ℕ) → 0 ≤ k → k < length text → (eqb (get_or text k 0) 34 ≡ true → ⊥)) → Follows 1 (InLiteral []) WantsValue rest (front.Dead (length rest))
literal_lost rest text some same misses = literal_dies rest some (λ k lt. subst (λ (t : List ℕ). (j : ℕ) → 0 ≤ j → j < length t → (eqb (get_or t j 0) 34 ≡ true → ⊥)) same misses k (omega arith) lt)

pub symbol_found : (k : Mark) (rest text name : List ℕ) (n : ℕ) → 0 < length rest → text ≡ drop 1 rest → n ≡ front_length is_name_byte text → 0 < n → name ≡ take n text
    → Follows 1 (InSymbol k []) WantsValue rest (front.Token (Operand (named k name)) (n + 1))
symbol_found k rest text name n some same long names e =
    let is : n ≡ front_length is_name_byte (drop 1 rest) = long ∙ ap (front_length is_name_byte) same in
    let name_is : name ≡ take n (drop 1 rest) = e ∙ ap (take n) same in
    let base = symbol_is k rest some (omega arith) in
    subst (λ (l : List ℕ). Follows 1 (InSymbol k []) WantsValue rest (front.Token (Operand (named k l)) (n + 1))) (sym name_is)
    (subst (λ (m : ℕ). Follows 1 (InSymbol k []) WantsValue rest (front.Token (Operand (named k (take m (drop 1 rest)))) (m + 1))) (sym is) base)

pub symbol_lost : (k : Mark) (rest text : List ℕ) (n : ℕ) → 0 < length rest → text ≡ drop 1 rest → n ≡ front_length is_name_byte text → n ≡ 0 → Follows 1 (InSymbol k []) WantsValue rest (front.Dead 1)
symbol_lost k rest text n some same long none = symbol_dies k rest some (ap (front_length is_name_byte) (sym same) ∙ sym long ∙ none)

pub word_found : (Such : State → Type 0) (rest : List ℕ) (x : Token) (n : ℕ) → n ≡ front_length is_name_byte rest → 0 < n → ((s : State) → Such s → (k : ℕ) → k < n → may_stand s (InWord (take (suc k) rest)) ≡ true) → x ≡ word (take n rest)
    → Follows 1 (InWord (take 1 rest)) Such rest (front.Token x n)
word_found Such rest x n long some stands e =
    subst (λ (y : Token). Follows 1 (InWord (take 1 rest)) Such rest (front.Token y n)) (sym e)
    (subst (λ (m : ℕ). Follows 1 (InWord (take 1 rest)) Such rest (front.Token (word (take m rest)) m)) (sym long) (word_is Such rest (omega arith) (λ s such k lt. stands s such k (omega arith))))

-- the operators of which a word may be the front
pub record OperatorTo (rest : List ℕ) (i : ℕ) : Type 0 where
  pub some : 0 < i
  pub begins : (k : ℕ) → k < i → begins_operator all_ops (folded (take (suc k) rest)) ≡ true

pub operator_first : (rest : List ℕ) → begins_operator all_ops (folded (take 1 rest)) ≡ true → OperatorTo rest 1
operator_first rest e = record { some = omega arith; begins = by }
  where
    by : (k : ℕ) → k < 1 → begins_operator all_ops (folded (take (suc k) rest)) ≡ true
    by zero lt = e
    by (suc k) lt = absurd (omega arith)

pub operator_more : (rest : List ℕ) (i : ℕ) → OperatorTo rest i → begins_operator all_ops (folded (take (i + 1) rest)) ≡ true → OperatorTo rest (i + 1)
operator_more rest i o e = record { some = omega arith; begins = λ k lt. elim (cases_eq k i) [ inl is ↦ ap (λ (j : ℕ). begins_operator all_ops (folded (take j rest))) (next k is) ∙ e | inr other ↦ o.begins k (omega arith) ] }
  where
    next : (k : ℕ) → k ≡ i → suc k ≡ i + 1
    next k is = omega arith

pub operator_lost : (rest : List ℕ) (i n : ℕ) → n ≡ front_length is_name_byte rest → i < n → OperatorTo rest i → begins_operator all_ops (folded (take (i + 1) rest)) ≡ false → Follows 1 (InWord (take 1 rest)) WantsOperator rest (front.Dead i)
operator_lost rest i n long lt o e =
    let next : i + 1 ≡ suc i = omega arith in
    operator_dies rest i o.some (omega arith) o.begins (ap (λ (j : ℕ). begins_operator all_ops (folded (take j rest))) (sym next) ∙ e)

pub operator_found : (rest : List ℕ) (x : Token) (n i : ℕ) → n ≡ front_length is_name_byte rest → 0 < n → n ≤ i → OperatorTo rest i → x ≡ word (take n rest) → Follows 1 (InWord (take 1 rest)) WantsOperator rest (front.Token x n)
operator_found rest x n i long some le o e = word_found WantsOperator rest x n long some (λ s such k lt. rw such (o.begins k (omega arith))) e

pub digit_there : (rest : List ℕ) (n : ℕ) → (nat_lt n (length rest) && is_digit (get_or rest n 0)) ≡ true → (n < length rest) × (is_digit (get_or rest n 0) ≡ true)
digit_there rest n e = let both = and_true (nat_lt n (length rest)) (is_digit (get_or rest n 0)) e in (let lt = both.0 in grind (arith, nat_tests), both.1)

pub no_digit_there : (rest : List ℕ) (n : ℕ) → (nat_lt n (length rest) && is_digit (get_or rest n 0)) ≡ false → n < length rest → is_digit (get_or rest n 0) ≡ false
no_digit_there rest n e lt = let is : nat_lt n (length rest) ≡ true = grind (arith, nat_tests) in ap (λ (t : Bool). t && is_digit (get_or rest n 0)) (sym is) ∙ e

-- ---- by the first byte

pub at_start : (rest : List ℕ) (m : Mode) (Such : State → Type 0) (f : Front) → 0 < length rest → begin (get_or rest 0 0) ≡ Grows m → ((s : State) → Such s → may_stand s m ≡ true) → Follows 1 m Such rest f → IsAt Such rest f
at_start [] m Such f some e stands follows = absurd (omega arith)
at_start (b ∷ bs) m Such f some e stands follows = begins_at b bs m Such f e stands follows

-- a word begins with its first byte
pub at_word : (rest : List ℕ) (Such : State → Type 0) (f : Front) → 0 < length rest → is_letter (get_or rest 0 0) ≡ true → ((s : State) → Such s → may_stand s (InWord (take 1 rest)) ≡ true)
    → Follows 1 (InWord (take 1 rest)) Such rest f → IsAt Such rest f
at_word [] Such f some is stands follows = absurd (omega arith)
at_word (b ∷ bs) Such f some is stands follows = at_start (b ∷ bs) (InWord (b ∷ [])) Such f some (begin-letter b is) stands follows

pub letter_first : (rest : List ℕ) → 0 < length rest → is_letter (get_or rest 0 0) ≡ true → 0 < front_length is_name_byte rest
letter_first [] some is = absurd (omega arith)
letter_first (b ∷ bs) some is =
    let name : is_name_byte b ≡ true = grind (arith, nat_tests) in
    subst (λ (t : Bool). 0 < cond t (suc (front_length is_name_byte bs)) zero) (sym name) (omega arith)

pub refused_start : (rest : List ℕ) (Such : State → Type 0) → 0 < length rest → ((s : State) → Such s → first_at s (begin (get_or rest 0 0)) ≡ None) → IsAt Such rest front.Refused
refused_start [] Such some none = absurd (omega arith)
refused_start (b ∷ bs) Such some none = refused_at b bs Such none

-- a token that may not stand here
pub refused_mode : (s : State) (m : Mode) (v : Move) → Grows m ≡ v → may_stand s m ≡ false → first_at s v ≡ None
refused_mode s m v e stands = sym (ap (first_at s) e) ∙ ap (λ (t : Bool). cond t (Some (in_mode m s)) None) stands

pub refused_wrong : (s : State) (v : Move) → Wrong ≡ v → first_at s v ≡ None
refused_wrong s v e = sym (ap (first_at s) e)

pub wants_not_has : (s : State) → wants_value s ≡ true → has_value s ≡ false
wants_not_has (Wants below f) e = refl
wants_not_has (HasValue below f v) e = absurd cc
wants_not_has (WantsRight below f l c) e = refl
wants_not_has (Has below rows t) e = absurd cc

pub at_such : (A B : State → Type 0) (rest : List ℕ) (f : Front) → ((s : State) → B s → A s) → IsAt A rest f → IsAt B rest f
at_such A B rest f h is = record { within = is.within; reads = λ at s b. is.reads at s (h s b) }

pub digit_stands : (s : State) (negative : Bool) (b : ℕ) → wants_value s ≡ true → is_digit b ≡ true → may_stand s (InDigits negative (b - 48)) ≡ true
digit_stands s negative b w is = let nine : leb (b - 48) 2147483647 ≡ true = grind (arith, nat_tests) in rw w nine

pub digit_refused : (s : State) (n : ℕ) → wants_value s ≡ false → may_stand s (InDigits false n) ≡ false
digit_refused s n w = ap (λ (t : Bool). t && leb n 2147483647) w

pub word_refused : (s : State) (rest : List ℕ) → 0 < length rest → wants_value s ≡ false → begins_operator all_ops (folded (take 1 rest)) ≡ false → may_stand s (InWord (get_or rest 0 0 ∷ [])) ≡ false
word_refused s [] some w e = absurd (omega arith)
word_refused s (b ∷ bs) some w e = rw w e

pub word_stands : (s : State) (w : List ℕ) → wants_value s ≡ false → begins_operator all_ops (folded w) ≡ true → may_stand s (InWord w) ≡ true
word_stands s w no_value e = rw no_value e

pub plain_is : (b : ℕ) → is_blank b ≡ false → (b ≡ 40 → ⊥) → (b ≡ 41 → ⊥) → is_plain b ≡ true
plain_is b blank first second = grind (arith, nat_tests)

-- ---- digits in a part of the text

pub digits_here_in : (negative : Bool) (rest text : List ℕ) (from i size : ℕ) → text ≡ drop from rest → i < length text → DigitsTo negative rest from i size → is_digit (get_or text i 0) ≡ false
    → front.Token (Operand (value.Integer (signed negative size))) (from + i) ≡ digits_front negative 0 from (drop from rest)
digits_here_in negative rest text from i size same =
    let P : List ℕ → Type 0 = λ t. (i < length t) → DigitsTo negative rest from i size → (is_digit (get_or t i 0) ≡ false) → front.Token (Operand (value.Integer (signed negative size))) (from + i) ≡ digits_front negative 0 from (drop from rest) in
    subst P (sym same) (digits_here negative rest from i size)

pub digits_larger_in : (negative : Bool) (rest text : List ℕ) (from i size : ℕ) → text ≡ drop from rest → i < length text → DigitsTo negative rest from i size → is_digit (get_or text i 0) ≡ true → 2147483647 < 10 * size + (get_or text i 0 - 48)
    → front.Dead (from + i) ≡ digits_front negative 0 from (drop from rest)
digits_larger_in negative rest text from i size same =
    let P : List ℕ → Type 0 = λ t. (i < length t) → DigitsTo negative rest from i size → (is_digit (get_or t i 0) ≡ true) → (2147483647 < 10 * size + (get_or t i 0 - 48)) → front.Dead (from + i) ≡ digits_front negative 0 from (drop from rest) in
    subst P (sym same) (digits_larger negative rest from i size)

pub digits_more_in : (negative : Bool) (rest text : List ℕ) (from i size : ℕ) → text ≡ drop from rest → i < length text → DigitsTo negative rest from i size → is_digit (get_or text i 0) ≡ true → 10 * size + (get_or text i 0 - 48) ≤ 2147483647
    → DigitsTo negative rest from (i + 1) (10 * size + (get_or text i 0 - 48))
digits_more_in negative rest text from i size same =
    let P : List ℕ → Type 0 = λ t. (i < length t) → DigitsTo negative rest from i size → (is_digit (get_or t i 0) ≡ true) → (10 * size + (get_or t i 0 - 48) ≤ 2147483647) → DigitsTo negative rest from (i + 1) (10 * size + (get_or t i 0 - 48)) in
    subst P (sym same) (digits_more negative rest from i size)

pub digits_end_in : (negative : Bool) (rest text : List ℕ) (from i size : ℕ) → text ≡ drop from rest → from ≤ length rest → i ≤ length text → length text ≤ i → DigitsTo negative rest from i size
    → front.Token (Operand (value.Integer (signed negative size))) (length rest) ≡ digits_front negative 0 from (drop from rest)
digits_end_in negative rest text from i size same within le ge d =
    let long : length text ≡ length (drop from rest) = ap length same in
    digits_end negative rest from i size within (omega arith) (omega arith) d
