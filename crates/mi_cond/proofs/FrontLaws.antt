-- What stands at the front of a text is what the machine reads there.
use Rattle.std.proofs.Common.{◌≡◌, ℕ, zero, suc, ◌+◌, ◌*◌, ◌-◌, ◌<◌, ◌≤◌, leb, eqb, Bool, true, false, cond, not, length, take, drop, get_or, List, [], ◌∷◌, ◌++◌, Option, Some, None, Result, Err, refl, sym, ap, subst, ◌∙◌, append_assoc, arith, inl, inr}
use Rattle.std.specs.Prelude.{option_and_then, option_map, is_some, nat_lt}
use Rattle.std.proofs.lemmas.Bool.{cases_Bool}
use Rattle.std.proofs.lemmas.Bool.Decides.{nat_tests}
use Rattle.std.proofs.lemmas.List.{append-nil, drop_more, drop_all, length-drop}
use Rattle.mi_text.specs.Fold.{folded}
use Rattle.mi_cond.specs.declared.error.CondFault.{CondFault}
use Rattle.mi_cond.specs.declared.error.CondFault.TheVariants.{Syntax, TooDeep}
use Rattle.mi_cond.specs.declared.operand.Relation.{Relation}
use Rattle.mi_cond.specs.declared.operand.Relation.TheVariants as relation
use Rattle.mi_cond.specs.declared.operand.Comparison.{Comparison}
use Rattle.mi_cond.specs.declared.operand.Value.TheVariants as value
use Rattle.mi_cond.specs.declared.token.Mark.{Mark}
use Rattle.mi_cond.specs.declared.token.Token.{Token}
use Rattle.mi_cond.specs.declared.token.Token.TheVariants.{Operand, Compare as Compares}
use Rattle.mi_cond.specs.declared.front.Front.{Front}
use Rattle.mi_cond.specs.declared.front.Front.TheVariants as front
use Rattle.mi_cond.specs.Tree.{Tree, Compare}
use Rattle.mi_cond.proofs.ByteSteps.{pick}
use Rattle.mi_cond.proofs.Lexis.{BeginSpelt, begin_spelt, begin-blank}
use Rattle.mi_cond.specs.Integer.{is_digit, signed, is_empty}
use Rattle.mi_cond.specs.Lex.{is_blank, is_name_byte, all_ops}
use Rattle.mi_cond.specs.Steps.{State, Wants, HasValue, WantsRight, Has, negated, depth_at, step, end_of, wants_value}
use Rattle.mi_cond.specs.Moves.{Mode, InWord, InSymbol, InLiteral, AfterMinus, InDigits, AfterTilde, InComparison, Move, Grows, Takes, Leaves, Wrong, Place, named, relation_by, relation_with, finished, left, compares, begin, move, word, begins_operator, may_stand, within, between, first_at, after, end_in}
use Rattle.mi_cond.specs.Answer.{ended, shallow, goes_on, read_from}
use Rattle.mi_cond.specs.Fronts.{front_length, read_at, left_at, by_front, IsLong, IsWithin, Follows, IsAt, WantsValue, WantsOperator, ComparesValue, digits_front}

abbrev pub Answer : Type 0
Answer = Result Tree CondFault

abbrev pub in_mode : Mode → State → Place
in_mode m s = record { mode = m; state = s }

-- ---- the depth

pub shallow_is : (at : ℕ) (s : State) (r : Answer) → depth_at s ≤ 64 → shallow at s r ≡ r
shallow_is at s r le = let fine : nat_lt 64 (depth_at s) ≡ false = grind (arith, nat_tests) in ap (λ (b : Bool). cond b (Err (TooDeep at)) r) fine

pub shallow_same : (at : ℕ) (s : State) (x y : Answer) → (depth_at s ≤ 64 → x ≡ y) → shallow at s x ≡ shallow at s y
shallow_same at s x y h =
    elim (cases_Bool (nat_lt 64 (depth_at s))) [
      | inl deep ↦ ap (λ (b : Bool). cond b (Err (TooDeep at)) x) deep ∙ sym (ap (λ (b : Bool). cond b (Err (TooDeep at)) y) deep)
      | inr fine ↦ ap (shallow at s) (h (grind (arith, nat_tests)))
    ]

-- ---- one byte, and the end of a token

byte_grows : (at : ℕ) (s : State) (m n : Mode) (b : ℕ) (bs : List ℕ) → depth_at s ≤ 64 → move m b ≡ Grows n → may_stand s n ≡ true → read_from at (b ∷ bs) (in_mode m s) ≡ read_from (at + 1) bs (in_mode n s)
byte_grows at s m n b bs le e stands =
    ap (λ (v : Move). goes_on at (after s b v) (read_from (at + 1) bs)) e
    ∙ ap (λ (t : Bool). goes_on at (cond t (Some (in_mode n s)) None) (read_from (at + 1) bs)) stands
    ∙ shallow_is at s (read_from (at + 1) bs (in_mode n s)) le

byte_refused : (at : ℕ) (s : State) (m n : Mode) (b : ℕ) (bs : List ℕ) → move m b ≡ Grows n → may_stand s n ≡ false → read_from at (b ∷ bs) (in_mode m s) ≡ Err (Syntax at)
byte_refused at s m n b bs e stands =
    ap (λ (v : Move). goes_on at (after s b v) (read_from (at + 1) bs)) e ∙ ap (λ (t : Bool). goes_on at (cond t (Some (in_mode n s)) None) (read_from (at + 1) bs)) stands

byte_wrong : (at : ℕ) (s : State) (m : Mode) (b : ℕ) (bs : List ℕ) → move m b ≡ Wrong → read_from at (b ∷ bs) (in_mode m s) ≡ Err (Syntax at)
byte_wrong at s m b bs e = ap (λ (v : Move). goes_on at (after s b v) (read_from (at + 1) bs)) e

leaves : (at : ℕ) (b : ℕ) (bs : List ℕ) (o : Option State) → goes_on at (option_and_then (λ n. first_at n (begin b)) o) (read_from (at + 1) bs) ≡ left_at at o (b ∷ bs)
leaves at b bs None = refl
leaves at b bs (Some n) = refl

finishes : (at : ℕ) (o : Option State) → ended at (option_and_then end_of o) ≡ left_at at o []
finishes at None = refl
finishes at (Some n) = refl

-- a token that has begun ends before these bytes
abbrev pub Stops : Mode → Token → List ℕ → Type 0
Stops m x [] = (s : State) → end_in m s ≡ option_and_then end_of (step s x)
Stops m x (b ∷ bs) = move m b ≡ Leaves x

stop : (at : ℕ) (s : State) (m : Mode) (x : Token) (bs : List ℕ) → Stops m x bs → read_from at bs (in_mode m s) ≡ left_at at (step s x) bs
stop at s m x [] e = ap (ended at) (e s) ∙ finishes at (step s x)
stop at s m x (b ∷ bs) e = ap (λ (v : Move). goes_on at (after s b v) (read_from (at + 1) bs)) e ∙ leaves at b bs (step s x)

-- ---- runs of bytes

-- a token grows by each byte that passes a test
abbrev pub GrowsBy : (ℕ → Bool) → (List ℕ → Mode) → Type 0
GrowsBy test grown = (w : List ℕ) (b : ℕ) → test b ≡ true → move (grown w) b ≡ Grows (grown (w ++ b ∷ []))

run : (test : ℕ → Bool) (grown : List ℕ → Mode) → GrowsBy test grown → (i : ℕ) (w bs : List ℕ) (at : ℕ) (s : State) → depth_at s ≤ 64 → i ≤ front_length test bs
    → ((k : ℕ) → k ≤ i → may_stand s (grown (w ++ take k bs)) ≡ true) → read_from at bs (in_mode (grown w) s) ≡ read_from (at + i) (drop i bs) (in_mode (grown (w ++ take i bs)) s)
run test grown grows zero w bs at s le enough stands =
    let here : at ≡ at + 0 = omega arith in
    ap (λ (n : ℕ). read_from n bs (in_mode (grown w) s)) here ∙ ap (λ (v : List ℕ). read_from (at + 0) bs (in_mode (grown v) s)) (sym (append-nil w))
run test grown grows (suc i) w [] at s le enough stands = absurd (omega arith)
run test grown grows (suc i) w (b ∷ bs) at s le enough stands =
    elim (cases_Bool (test b)) [
      | inl is ↦
          let one = byte_grows at s (grown w) (grown (w ++ b ∷ [])) b bs le (grows w b is) (stands 1 (omega arith)) in
          let more = run test grown grows i (w ++ b ∷ []) bs (at + 1) s le (passes is) (λ k less. ap (λ (v : List ℕ). may_stand s (grown v)) (append_assoc w (b ∷ []) (take k bs)) ∙ stands (suc k) (omega arith)) in
          let place : at + 1 + i ≡ at + suc i = omega arith in
          one ∙ more ∙ ap (λ (n : ℕ). read_from n (drop i bs) (in_mode (grown ((w ++ b ∷ []) ++ take i bs)) s)) place
          ∙ ap (λ (v : List ℕ). read_from (at + suc i) (drop i bs) (in_mode (grown v) s)) (append_assoc w (b ∷ []) (take i bs))
      | inr misses ↦ absurd (stops misses)
    ]
  where
    passes : test b ≡ true → i ≤ front_length test bs
    passes is = let long : suc i ≤ suc (front_length test bs) = subst (λ (t : Bool). suc i ≤ cond t (suc (front_length test bs)) zero) is enough in omega arith

    stops : test b ≡ false → ⊥
    stops misses = let short : suc i ≤ zero = subst (λ (t : Bool). suc i ≤ cond t (suc (front_length test bs)) zero) misses enough in omega arith

-- where no byte more passes
pub behind_run : (test : ℕ → Bool) (P : List ℕ → Type 0) → P [] → ((b : ℕ) (cs : List ℕ) → test b ≡ false → P (b ∷ cs)) → (bs : List ℕ) → P (drop (front_length test bs) bs)
behind_run test P none some [] = none
behind_run test P none some (b ∷ bs) =
    elim (cases_Bool (test b)) [
      | inl is ↦ subst (λ (t : Bool). P (drop (cond t (suc (front_length test bs)) zero) (b ∷ bs))) (sym is) (behind_run test P none some bs)
      | inr misses ↦ subst (λ (t : Bool). P (drop (cond t (suc (front_length test bs)) zero) (b ∷ bs))) (sym misses) (some b bs misses)
    ]

pub front_within : (test : ℕ → Bool) (bs : List ℕ) → front_length test bs ≤ length bs
front_within test [] = omega arith
front_within test (b ∷ bs) =
    elim (cases_Bool (test b)) [
      | inl is ↦ subst (λ (t : Bool). cond t (suc (front_length test bs)) zero ≤ suc (length bs)) (sym is) (let more = front_within test bs in omega arith)
      | inr misses ↦ subst (λ (t : Bool). cond t (suc (front_length test bs)) zero ≤ suc (length bs)) (sym misses) (omega arith)
    ]

run_token : (test : ℕ → Bool) (grown : List ℕ → Mode) → GrowsBy test grown → (x : Token) (w bs : List ℕ) (at : ℕ) (s : State) → depth_at s ≤ 64
    → ((k : ℕ) → k ≤ front_length test bs → may_stand s (grown (w ++ take k bs)) ≡ true) → Stops (grown (w ++ take (front_length test bs) bs)) x (drop (front_length test bs) bs)
    → read_from at bs (in_mode (grown w) s) ≡ left_at (at + front_length test bs) (step s x) (drop (front_length test bs) bs)
run_token test grown grows x w bs at s le stands stops =
    let n : ℕ = front_length test bs in
    run test grown grows n w bs at s le (omega arith) stands ∙ stop (at + n) s (grown (w ++ take n bs)) x (drop n bs) stops

-- ---- where a token begins

shallow_twice : (at : ℕ) (s : State) (r : Answer) → shallow at s (shallow at s r) ≡ shallow at s r
shallow_twice at s r = shallow_same at s (shallow at s r) r (λ le. shallow_is at s r le)

long_shallow : (at : ℕ) (s : State) (rest : List ℕ) (f : Front) → IsLong f → shallow at s (by_front at s rest f) ≡ by_front at s rest f
long_shallow at s rest (front.Token x n) l = shallow_twice at s (left_at (at + n) (step s x) (drop n rest))
long_shallow at s rest (front.Dead n) l = shallow_twice at s (Err (Syntax (at + n)))
long_shallow at s rest front.Blank l = absurd l
long_shallow at s rest (front.Bracket x) l = absurd l
long_shallow at s rest front.Refused l = absurd l

pub begins_at : (b : ℕ) (bs : List ℕ) (m : Mode) (Such : State → Type 0) (f : Front) → begin b ≡ Grows m → ((s : State) → Such s → may_stand s m ≡ true) → Follows 1 m Such (b ∷ bs) f → IsAt Such (b ∷ bs) f
begins_at b bs m Such f e stands follows =
    record {
      within = follows.within;
      reads = λ at s such.
          ap (λ (v : Move). goes_on at (first_at s v) (read_from (at + 1) bs)) e
          ∙ ap (λ (t : Bool). goes_on at (cond t (Some (in_mode m s)) None) (read_from (at + 1) bs)) (stands s such)
          ∙ shallow_same at s (read_from (at + 1) bs (in_mode m s)) (by_front at s (b ∷ bs) f) (λ le. follows.reads at s such le)
          ∙ long_shallow at s (b ∷ bs) f follows.long;
    }

pub refused_at : (b : ℕ) (bs : List ℕ) (Such : State → Type 0) → ((s : State) → Such s → first_at s (begin b) ≡ None) → IsAt Such (b ∷ bs) front.Refused
refused_at b bs Such none = record { within = tt; reads = λ at s such. ap (λ (o : Option Place). goes_on at o (read_from (at + 1) bs)) (none s such) }

-- ---- names

word_grows : GrowsBy is_name_byte InWord
word_grows w b e = ap (λ (t : Bool). cond t (Grows (InWord (w ++ b ∷ []))) (left (finished (InWord w)))) e

word_stops : (w bs : List ℕ) → Stops (InWord w) (word w) (drop (front_length is_name_byte bs) bs)
word_stops w bs = behind_run is_name_byte (λ cs. Stops (InWord w) (word w) cs) (λ s. refl) (λ b cs misses. ap (λ (t : Bool). cond t (Grows (InWord (w ++ b ∷ []))) (left (finished (InWord w)))) misses) bs

word_follows : (Such : State → Type 0) (b : ℕ) (bs : List ℕ) → ((s : State) → Such s → (k : ℕ) → k ≤ front_length is_name_byte bs → may_stand s (InWord (b ∷ take k bs)) ≡ true)
    → Follows 1 (InWord (b ∷ [])) Such (b ∷ bs) (front.Token (word (b ∷ take (front_length is_name_byte bs) bs)) (suc (front_length is_name_byte bs)))
word_follows Such b bs stands =
    let n : ℕ = front_length is_name_byte bs in
    let name : List ℕ = b ∷ take n bs in
    let less = front_within is_name_byte bs in
    record {
      long = tt;
      within = (omega arith, omega arith);
      reads = λ at s such le.
          let place : at + 1 + n ≡ at + suc n = omega arith in
          run_token is_name_byte InWord word_grows (word name) (b ∷ []) bs (at + 1) s le (stands s such) (word_stops name bs)
          ∙ ap (λ (p : ℕ). left_at p (step s (word name)) (drop n bs)) place
          ∙ sym (shallow_is at s (left_at (at + suc n) (step s (word name)) (drop n bs)) le);
    }

-- a word as long as it can be
pub word_is : (Such : State → Type 0) (rest : List ℕ) → 0 < front_length is_name_byte rest → ((s : State) → Such s → (k : ℕ) → k < front_length is_name_byte rest → may_stand s (InWord (take (suc k) rest)) ≡ true)
    → Follows 1 (InWord (take 1 rest)) Such rest (front.Token (word (take (front_length is_name_byte rest) rest)) (front_length is_name_byte rest))
word_is Such [] some stands = absurd (omega arith)
word_is Such (b ∷ bs) some stands =
    elim (cases_Bool (is_name_byte b)) [
      | inl is ↦
          let n : ℕ = front_length is_name_byte bs in
          let all : front_length is_name_byte (b ∷ bs) ≡ suc n = ap (λ (t : Bool). cond t (suc n) zero) is in
          subst (λ (k : ℕ). Follows 1 (InWord (b ∷ [])) Such (b ∷ bs) (front.Token (word (take k (b ∷ bs))) k)) (sym all) (word_follows Such b bs (λ s such k le. stands s such k (omega arith)))
      | inr misses ↦ let none : front_length is_name_byte (b ∷ bs) ≡ zero = ap (λ (t : Bool). cond t (suc (front_length is_name_byte bs)) zero) misses in absurd (omega arith)
    ]

pub wants_word : (s : State) (w : List ℕ) → wants_value s ≡ true → may_stand s (InWord w) ≡ true
wants_word s w e = rw e refl

-- the byte at which a run that is longer goes on
next_of : (test : ℕ → Bool) (j : ℕ) (bs : List ℕ) → j < front_length test bs → (c : ℕ) × (cs : List ℕ) × (test c ≡ true) × (drop j bs ≡ c ∷ cs) × (take (suc j) bs ≡ take j bs ++ c ∷ [])
next_of test j [] lt = absurd (omega arith)
next_of test zero (b ∷ bs) lt =
    elim (cases_Bool (test b)) [
      | inl is ↦ (b, bs, is, refl, refl)
      | inr misses ↦ let none : front_length test (b ∷ bs) ≡ zero = ap (λ (t : Bool). cond t (suc (front_length test bs)) zero) misses in absurd (omega arith)
    ]
next_of test (suc j) (b ∷ bs) lt =
    elim (cases_Bool (test b)) [
      | inl is ↦
          let all : front_length test (b ∷ bs) ≡ suc (front_length test bs) = ap (λ (t : Bool). cond t (suc (front_length test bs)) zero) is in
          let more = next_of test j bs (omega arith) in
          (more.0, more.1, more.2, more.3, ap (λ (cs : List ℕ). b ∷ cs) more.4)
      | inr misses ↦ let none : front_length test (b ∷ bs) ≡ zero = ap (λ (t : Bool). cond t (suc (front_length test bs)) zero) misses in absurd (omega arith)
    ]

-- a word that no operator begins with its byte i
pub operator_dies : (rest : List ℕ) (i : ℕ) → 0 < i → i < front_length is_name_byte rest → ((k : ℕ) → k < i → begins_operator all_ops (folded (take (suc k) rest)) ≡ true)
    → begins_operator all_ops (folded (take (suc i) rest)) ≡ false → Follows 1 (InWord (take 1 rest)) WantsOperator rest (front.Dead i)
operator_dies [] i some lt begins ends = absurd (omega arith)
operator_dies (b ∷ bs) zero some lt begins ends = absurd (omega arith)
operator_dies (b ∷ bs) (suc j) some lt begins ends =
    elim (cases_Bool (is_name_byte b)) [
      | inl is ↦ by (ap (λ (t : Bool). cond t (suc (front_length is_name_byte bs)) zero) is)
      | inr misses ↦ let none : front_length is_name_byte (b ∷ bs) ≡ zero = ap (λ (t : Bool). cond t (suc (front_length is_name_byte bs)) zero) misses in absurd (omega arith)
    ]
  where
    by : front_length is_name_byte (b ∷ bs) ≡ suc (front_length is_name_byte bs) → Follows 1 (InWord (b ∷ [])) WantsOperator (b ∷ bs) (front.Dead (suc j))
    by all =
        let shorter : j < front_length is_name_byte bs = omega arith in
        let next = next_of is_name_byte j bs shorter in
        let less = front_within is_name_byte bs in
        record {
          long = tt;
          within = omega arith;
          reads = λ at s such le.
              let place : at + 1 + j ≡ at + suc j = omega arith in
              let dead : may_stand s (InWord (b ∷ (take j bs ++ next.0 ∷ []))) ≡ false = rw such (ap (λ (cs : List ℕ). begins_operator all_ops (folded (b ∷ cs))) (sym next.4) ∙ ends) in
              run is_name_byte InWord word_grows j (b ∷ []) bs (at + 1) s le (omega arith) (λ k less'. rw such (begins k (omega arith)))
              ∙ ap (λ (cs : List ℕ). read_from (at + 1 + j) cs (in_mode (InWord (b ∷ take j bs)) s)) next.3
              ∙ byte_refused (at + 1 + j) s (InWord (b ∷ take j bs)) (InWord (b ∷ (take j bs ++ next.0 ∷ []))) next.0 next.1 (word_grows (b ∷ take j bs) next.0 next.2) dead
              ∙ ap (λ (p : ℕ). Err (Syntax p)) place ∙ sym (shallow_is at s (Err (Syntax (at + suc j))) le);
        }

symbol_grows : (k : Mark) → GrowsBy is_name_byte (InSymbol k)
symbol_grows k w b e = ap (λ (t : Bool). cond t (Grows (InSymbol k (w ++ b ∷ []))) (left (finished (InSymbol k w)))) e

symbol_stops : (k : Mark) (w bs : List ℕ) → is_empty w ≡ false → Stops (InSymbol k w) (Operand (named k w)) (drop (front_length is_name_byte bs) bs)
symbol_stops k w bs some =
    let token : finished (InSymbol k w) ≡ Some (Operand (named k w)) = ap (λ (t : Bool). cond t None (Some (Operand (named k w)))) some in
    behind_run is_name_byte (λ cs. Stops (InSymbol k w) (Operand (named k w)) cs) (λ s. ap (option_and_then (λ (x : Token). option_and_then end_of (step s x))) token)
    (λ b cs misses. ap (λ (t : Bool). cond t (Grows (InSymbol k (w ++ b ∷ []))) (left (finished (InSymbol k w)))) misses ∙ ap left token) bs

taken_some : (test : ℕ → Bool) (bs : List ℕ) → 0 < front_length test bs → is_empty (take (front_length test bs) bs) ≡ false
taken_some test [] lt = absurd (omega arith)
taken_some test (b ∷ bs) lt =
    elim (cases_Bool (test b)) [
      | inl is ↦ ap (λ (t : Bool). is_empty (take (cond t (suc (front_length test bs)) zero) (b ∷ bs))) is
      | inr misses ↦ let none : front_length test (b ∷ bs) ≡ zero = ap (λ (t : Bool). cond t (suc (front_length test bs)) zero) misses in absurd (omega arith)
    ]

pub symbol_is : (k : Mark) (rest : List ℕ) → 0 < length rest → 0 < front_length is_name_byte (drop 1 rest)
    → Follows 1 (InSymbol k []) WantsValue rest (front.Token (Operand (named k (take (front_length is_name_byte (drop 1 rest)) (drop 1 rest)))) (front_length is_name_byte (drop 1 rest) + 1))
symbol_is k [] some names = absurd (omega arith)
symbol_is k (b ∷ bs) some names =
    let n : ℕ = front_length is_name_byte bs in
    let name : List ℕ = take n bs in
    let less = front_within is_name_byte bs in
    let x : Token = Operand (named k name) in
    let next : n + 1 ≡ suc n = omega arith in
    record {
      long = tt;
      within = (omega arith, omega arith);
      reads = λ at s such le.
          let place : at + 1 + n ≡ at + (n + 1) = omega arith in
          run_token is_name_byte (InSymbol k) (symbol_grows k) x [] bs (at + 1) s le (λ i h. such) (symbol_stops k name bs (taken_some is_name_byte bs names))
          ∙ ap (λ (p : ℕ). left_at p (step s x) (drop n bs)) place
          ∙ ap (λ (m : ℕ). left_at (at + (n + 1)) (step s x) (drop m (b ∷ bs))) (sym next)
          ∙ sym (shallow_is at s (left_at (at + (n + 1)) (step s x) (drop (n + 1) (b ∷ bs))) le);
    }

pub symbol_dies : (k : Mark) (rest : List ℕ) → 0 < length rest → front_length is_name_byte (drop 1 rest) ≡ 0 → Follows 1 (InSymbol k []) WantsValue rest (front.Dead 1)
symbol_dies k [] some none = absurd (omega arith)
symbol_dies k (b ∷ []) some none = record { long = tt; within = omega arith; reads = λ at s such le. sym (shallow_is at s (Err (Syntax (at + 1))) le) }
symbol_dies k (b ∷ c ∷ cs) some none =
    elim (cases_Bool (is_name_byte c)) [
      | inl is ↦ let long : front_length is_name_byte (c ∷ cs) ≡ suc (front_length is_name_byte cs) = ap (λ (t : Bool). cond t (suc (front_length is_name_byte cs)) zero) is in absurd (omega arith)
      | inr misses ↦ record {
        long = tt;
        within = omega arith;
        reads = λ at s such le.
            byte_wrong (at + 1) s (InSymbol k []) c cs (ap (λ (t : Bool). cond t (Grows (InSymbol k (c ∷ []))) Wrong) misses) ∙ sym (shallow_is at s (Err (Syntax (at + 1))) le);
      }
    ]

-- ---- literals

abbrev pub not_quote : ℕ → Bool
not_quote b = not (eqb b 34)

literal_grows : GrowsBy not_quote InLiteral
literal_grows w b e =
    elim (cases_Bool (eqb b 34)) [
      | inl is ↦ let bad : not_quote b ≡ false = ap not is in absurd cc
      | inr misses ↦ ap (λ (t : Bool). cond t (Takes (Operand (value.Literal w))) (Grows (InLiteral (w ++ b ∷ [])))) misses
    ]

after_first : (s : State) (b : ℕ) (v : Move) → BeginSpelt b v → after s b v ≡ first_at s v
after_first s b (Grows m) spelt = refl
after_first s b (Takes x) spelt = refl
after_first s b (Leaves x) spelt = absurd spelt
after_first s b Wrong spelt = refl

-- between tokens the next byte begins one
pub between_reads : (at : ℕ) (s : State) (bs : List ℕ) → read_from at bs (between s) ≡ read_at at s bs
between_reads at s [] = refl
between_reads at s (b ∷ bs) = ap (λ (o : Option Place). goes_on at o (read_from (at + 1) bs)) (after_first s b (begin b) (begin_spelt b))

-- a token that ends with the byte
pub takes : (at : ℕ) (o : Option State) (bs : List ℕ) → ((n : State) → o ≡ Some n → depth_at n ≤ 64) → goes_on at (option_map between o) (read_from (at + 1) bs) ≡ cond (is_some o) (left_at (at + 1) o bs) (Err (Syntax at))
takes at None bs fits = refl
takes at (Some n) bs fits = shallow_is at n (read_from (at + 1) bs (between n)) (fits n refl) ∙ between_reads (at + 1) n bs

literal_taken : (at : ℕ) (s : State) (t bs : List ℕ) → wants_value s ≡ true → depth_at s ≤ 64 → goes_on at (option_map between (step s (Operand (value.Literal t)))) (read_from (at + 1) bs) ≡ left_at (at + 1) (step s (Operand (value.Literal t))) bs
literal_taken at (Wants below f) t bs w le =
    shallow_is at (HasValue below f (value.Literal t)) (read_from (at + 1) bs (between (HasValue below f (value.Literal t)))) (omega arith) ∙ between_reads (at + 1) (HasValue below f (value.Literal t)) bs
literal_taken at (HasValue below f v) t bs w le = absurd cc
literal_taken at (WantsRight below f l c) t bs w le =
    let next : State = Has below f.rows (negated f.nots (Compare c l (value.Literal t))) in
    shallow_is at next (read_from (at + 1) bs (between next)) (omega arith) ∙ between_reads (at + 1) next bs
literal_taken at (Has below rows u) t bs w le = absurd cc

-- a quote behind bytes that are none
pub quote_at : (n : ℕ) (bs : List ℕ) → n < length bs → get_or bs n 0 ≡ 34 → ((k : ℕ) → k < n → (eqb (get_or bs k 0) 34 ≡ true → ⊥)) → (n ≤ front_length not_quote bs) × (drop n bs ≡ 34 ∷ drop (suc n) bs)
quote_at n [] lt is misses = absurd (omega arith)
quote_at zero (b ∷ bs) lt is misses = (omega arith, ap (λ (c : ℕ). c ∷ bs) is)
quote_at (suc n) (b ∷ bs) lt is misses =
    let more = quote_at n bs (omega arith) is (λ k less. misses (suc k) (omega arith)) in
    elim (cases_Bool (eqb b 34)) [
      | inl quote ↦ absurd (misses 0 (omega arith) quote)
      | inr other ↦
          let passes : front_length not_quote (b ∷ bs) ≡ suc (front_length not_quote bs) = ap (λ (t : Bool). cond (not t) (suc (front_length not_quote bs)) zero) other in
          let less = more.0 in
          (omega arith, more.1)
    ]

pub literal_is : (rest : List ℕ) (n : ℕ) → 0 < length rest → n < length (drop 1 rest) → get_or (drop 1 rest) n 0 ≡ 34 → ((k : ℕ) → k < n → (eqb (get_or (drop 1 rest) k 0) 34 ≡ true → ⊥))
    → Follows 1 (InLiteral []) WantsValue rest (front.Token (Operand (value.Literal (take n (drop 1 rest)))) (n + 2))
literal_is [] n some lt is misses = absurd (omega arith)
literal_is (b ∷ bs) n some lt is misses =
    let quote = quote_at n bs lt is misses in
    let text : List ℕ = take n bs in
    let x : Token = Operand (value.Literal text) in
    let behind : List ℕ = drop (suc n) bs in
    let end : n + 2 ≡ suc (suc n) = omega arith in
    record {
      long = tt;
      within = (omega arith, omega arith);
      reads = λ at s such le.
          let place : at + 1 + n + 1 ≡ at + (n + 2) = omega arith in
          run not_quote InLiteral literal_grows n [] bs (at + 1) s le quote.0 (λ k h. such)
          ∙ ap (λ (cs : List ℕ). read_from (at + 1 + n) cs (in_mode (InLiteral text) s)) quote.1
          ∙ literal_taken (at + 1 + n) s text behind such le
          ∙ ap (λ (p : ℕ). left_at p (step s x) behind) place
          ∙ ap (λ (m : ℕ). left_at (at + (n + 2)) (step s x) (drop m (b ∷ bs))) (sym end)
          ∙ sym (shallow_is at s (left_at (at + (n + 2)) (step s x) (drop (n + 2) (b ∷ bs))) le);
    }

all_pass : (test : ℕ → Bool) (bs : List ℕ) → ((k : ℕ) → k < length bs → test (get_or bs k 0) ≡ true) → front_length test bs ≡ length bs
all_pass test [] h = refl
all_pass test (b ∷ bs) h = ap (λ (t : Bool). cond t (suc (front_length test bs)) zero) (h 0 (omega arith)) ∙ ap (λ (n : ℕ). suc n) (all_pass test bs (λ k lt. h (suc k) (omega arith)))

not_one : (b : ℕ) → (eqb b 34 ≡ true → ⊥) → not_quote b ≡ true
not_one b misses = elim (cases_Bool (eqb b 34)) [ inl is ↦ absurd (misses is) | inr other ↦ ap not other ]

pub literal_dies : (rest : List ℕ) → 0 < length rest → ((k : ℕ) → k < length (drop 1 rest) → (eqb (get_or (drop 1 rest) k 0) 34 ≡ true → ⊥)) → Follows 1 (InLiteral []) WantsValue rest (front.Dead (length rest))
literal_dies [] some misses = absurd (omega arith)
literal_dies (b ∷ bs) some misses =
    let all = all_pass not_quote bs (λ k lt. not_one (get_or bs k 0) (misses k lt)) in
    record {
      long = tt;
      within = omega arith;
      reads = λ at s such le.
          let place : at + 1 + length bs ≡ at + suc (length bs) = omega arith in
          run not_quote InLiteral literal_grows (length bs) [] bs (at + 1) s le (omega arith) (λ k h. such)
          ∙ ap (λ (cs : List ℕ). read_from (at + 1 + length bs) cs (in_mode (InLiteral (take (length bs) bs)) s)) (drop_all (length bs) bs (omega arith))
          ∙ ap (λ (p : ℕ). Err (Syntax p)) place ∙ sym (shallow_is at s (Err (Syntax (at + suc (length bs)))) le);
    }

-- ---- integers

drop_tail : (n : ℕ) (rest bs : List ℕ) (b : ℕ) → b ∷ bs ≡ drop n rest → bs ≡ drop (n + 1) rest
drop_tail n rest bs b e =
    let some : suc (length bs) ≡ length rest - n = ap length e ∙ length-drop n rest in
    let parts : b ∷ bs ≡ get_or rest n 0 ∷ drop (n + 1) rest = e ∙ drop_more rest n 0 (omega arith) in
    cc

drop_none : (n : ℕ) (rest : List ℕ) → [] ≡ drop n rest → length rest ≤ n
drop_none n rest e = let none : 0 ≡ length rest - n = ap length e ∙ length-drop n rest in omega arith

digits_read : (negative : Bool) (rest bs : List ℕ) (size n at : ℕ) (s : State) → bs ≡ drop n rest → wants_value s ≡ true → depth_at s ≤ 64
    → read_from (at + n) bs (in_mode (InDigits negative size) s) ≡ by_front at s rest (digits_front negative size n bs)
digits_read negative rest [] size n at s e w le =
    let x : Token = Operand (value.Integer (signed negative size)) in
    stop (at + n) s (InDigits negative size) x [] (λ t. refl) ∙ ap (left_at (at + n) (step s x)) e ∙ sym (shallow_is at s (left_at (at + n) (step s x) (drop n rest)) le)
digits_read negative rest (b ∷ bs) size n at s e w le =
    elim (cases_Bool (is_digit b)) [
      | inl is ↦ elim (cases_Bool (leb (10 * size + (b - 48)) 2147483647)) [
        | inl small ↦
            let stands : may_stand s (InDigits negative (10 * size + (b - 48))) ≡ true = rw w small in
            let place : at + n + 1 ≡ at + (n + 1) = omega arith in
            byte_grows (at + n) s (InDigits negative size) (InDigits negative (10 * size + (b - 48))) b bs le (grows is) stands
            ∙ ap (λ (p : ℕ). read_from p bs (in_mode (InDigits negative (10 * size + (b - 48))) s)) place
            ∙ digits_read negative rest bs (10 * size + (b - 48)) (n + 1) at s (drop_tail n rest bs b e) w le
            ∙ sym (ap (by_front at s rest) (so true is small))
        | inr large ↦
            let dead : may_stand s (InDigits negative (10 * size + (b - 48))) ≡ false = rw w large in
            byte_refused (at + n) s (InDigits negative size) (InDigits negative (10 * size + (b - 48))) b bs (grows is) dead
            ∙ sym (shallow_is at s (Err (Syntax (at + n))) le)
            ∙ sym (ap (by_front at s rest) (so false is large))
      ]
      | inr misses ↦
          stop (at + n) s (InDigits negative size) (Operand (value.Integer (signed negative size))) (b ∷ bs) (ap (λ (t : Bool). cond t (Grows (InDigits negative (10 * size + (b - 48)))) (Leaves (Operand (value.Integer (signed negative size))))) misses)
          ∙ ap (left_at (at + n) (step s (Operand (value.Integer (signed negative size))))) e
          ∙ sym (ap (by_front at s rest) (ap (λ (t : Bool). cond t (cond (leb (10 * size + (b - 48)) 2147483647) (digits_front negative (10 * size + (b - 48)) (n + 1) bs) (front.Dead n)) (front.Token (Operand (value.Integer (signed negative size))) n)) misses) ∙ shallow_is at s (left_at (at + n) (step s (Operand (value.Integer (signed negative size)))) (drop n rest)) le)
    ]
  where
    grows : is_digit b ≡ true → move (InDigits negative size) b ≡ Grows (InDigits negative (10 * size + (b - 48)))
    grows is = ap (λ (t : Bool). cond t (Grows (InDigits negative (10 * size + (b - 48)))) (Leaves (Operand (value.Integer (signed negative size))))) is

    so : (t : Bool) → is_digit b ≡ true → leb (10 * size + (b - 48)) 2147483647 ≡ t → digits_front negative size n (b ∷ bs) ≡ cond t (digits_front negative (10 * size + (b - 48)) (n + 1) bs) (front.Dead n)
    so t is e' = ap (λ (u : Bool). cond u (cond (leb (10 * size + (b - 48)) 2147483647) (digits_front negative (10 * size + (b - 48)) (n + 1) bs) (front.Dead n)) (front.Token (Operand (value.Integer (signed negative size))) n)) is
        ∙ ap (λ (u : Bool). cond u (digits_front negative (10 * size + (b - 48)) (n + 1) bs) (front.Dead n)) e'

digits_long : (negative : Bool) (rest bs : List ℕ) (size n : ℕ) → IsLong (digits_front negative size n bs)
digits_long negative rest [] size n = tt
digits_long negative rest (b ∷ bs) size n =
    pick IsLong (is_digit b) (cond (leb (10 * size + (b - 48)) 2147483647) (digits_front negative (10 * size + (b - 48)) (n + 1) bs) (front.Dead n)) (front.Token (Operand (value.Integer (signed negative size))) n)
    (λ _. pick IsLong (leb (10 * size + (b - 48)) 2147483647) (digits_front negative (10 * size + (b - 48)) (n + 1) bs) (front.Dead n) (λ _. digits_long negative rest bs (10 * size + (b - 48)) (n + 1)) (λ _. tt)) (λ _. tt)

digits_within : (negative : Bool) (rest bs : List ℕ) (size n : ℕ) → 0 < n → n + length bs ≡ length rest → IsWithin (digits_front negative size n bs) rest
digits_within negative rest [] size n some e = (omega arith, omega arith)
digits_within negative rest (b ∷ bs) size n some e =
    let P : Front → Type 0 = λ f. IsWithin f rest in
    pick P (is_digit b) (cond (leb (10 * size + (b - 48)) 2147483647) (digits_front negative (10 * size + (b - 48)) (n + 1) bs) (front.Dead n)) (front.Token (Operand (value.Integer (signed negative size))) n)
    (λ _. pick P (leb (10 * size + (b - 48)) 2147483647) (digits_front negative (10 * size + (b - 48)) (n + 1) bs) (front.Dead n) (λ _. digits_within negative rest bs (10 * size + (b - 48)) (n + 1) (omega arith) (omega arith)) (λ _. omega arith))
    (λ _. (omega arith, omega arith))

-- the first digit
digits_first : (negative : Bool) (n b : ℕ) (bs : List ℕ) → is_digit b ≡ true → digits_front negative 0 n (b ∷ bs) ≡ digits_front negative (b - 48) (n + 1) bs
digits_first negative n b bs is =
    let low : 10 * 0 + (b - 48) ≡ b - 48 = omega arith in
    let nine : leb (b - 48) 2147483647 ≡ true = grind (arith, nat_tests) in
    ap (λ (t : Bool). cond t (cond (leb (10 * 0 + (b - 48)) 2147483647) (digits_front negative (10 * 0 + (b - 48)) (n + 1) bs) (front.Dead n)) (front.Token (Operand (value.Integer (signed negative 0))) n)) is
    ∙ ap (λ (k : ℕ). cond (leb k 2147483647) (digits_front negative k (n + 1) bs) (front.Dead n)) low
    ∙ ap (λ (t : Bool). cond t (digits_front negative (b - 48) (n + 1) bs) (front.Dead n)) nine

pub digits_are : (rest : List ℕ) → 0 < length rest → is_digit (get_or rest 0 0) ≡ true → Follows 1 (InDigits false (get_or rest 0 0 - 48)) WantsValue rest (digits_front false 0 0 rest)
digits_are [] some is = absurd (omega arith)
digits_are (b ∷ bs) some is =
    let first : digits_front false 0 0 (b ∷ bs) ≡ digits_front false (b - 48) 1 bs = digits_first false 0 b bs is in
    subst (λ (f : Front). Follows 1 (InDigits false (b - 48)) WantsValue (b ∷ bs) f) (sym first) (record {
      long = digits_long false (b ∷ bs) bs (b - 48) 1;
      within = digits_within false (b ∷ bs) bs (b - 48) 1 (omega arith) (omega arith);
      reads = λ at s such le. digits_read false (b ∷ bs) bs (b - 48) 1 at s refl such le;
    })

pub negative_is : (rest : List ℕ) → 1 < length rest → is_digit (get_or rest 1 0) ≡ true → Follows 1 AfterMinus WantsValue rest (digits_front true 0 1 (drop 1 rest))
negative_is [] some is = absurd (omega arith)
negative_is (a ∷ []) some is = absurd (omega arith)
negative_is (a ∷ b ∷ bs) some is =
    let first : digits_front true 0 1 (b ∷ bs) ≡ digits_front true (b - 48) 2 bs = digits_first true 1 b bs is in
    subst (λ (f : Front). Follows 1 AfterMinus WantsValue (a ∷ b ∷ bs) f) (sym first) (record {
      long = digits_long true (a ∷ b ∷ bs) bs (b - 48) 2;
      within = digits_within true (a ∷ b ∷ bs) bs (b - 48) 2 (omega arith) (omega arith);
      reads = λ at s such le.
          let nine : leb (b - 48) 2147483647 ≡ true = grind (arith, nat_tests) in
          let place : at + 1 + 1 ≡ at + 2 = omega arith in
          byte_grows (at + 1) s AfterMinus (InDigits true (b - 48)) b bs le (ap (λ (t : Bool). cond t (Grows (InDigits true (b - 48))) Wrong) is) (rw such nine)
          ∙ ap (λ (p : ℕ). read_from p bs (in_mode (InDigits true (b - 48)) s)) place
          ∙ digits_read true (a ∷ b ∷ bs) bs (b - 48) 2 at s refl such le;
    })

pub negative_dies : (rest : List ℕ) → 0 < length rest → ((1 < length rest) → is_digit (get_or rest 1 0) ≡ false) → Follows 1 AfterMinus WantsValue rest (front.Dead 1)
negative_dies [] some misses = absurd (omega arith)
negative_dies (a ∷ []) some misses = record { long = tt; within = omega arith; reads = λ at s such le. sym (shallow_is at s (Err (Syntax (at + 1))) le) }
negative_dies (a ∷ b ∷ bs) some misses =
    record {
      long = tt;
      within = omega arith;
      reads = λ at s such le. byte_wrong (at + 1) s AfterMinus b bs (ap (λ (t : Bool). cond t (Grows (InDigits true (b - 48))) Wrong) (misses (omega arith))) ∙ sym (shallow_is at s (Err (Syntax (at + 1))) le);
    }

-- ---- operators of comparison

-- no operator is longer by two bytes
abbrev is_long : Relation → Bool
is_long relation.Less = false
is_long relation.Greater = false
is_long relation.Equal = true
is_long relation.NotEqual = true
is_long relation.GreaterOrEqual = true
is_long relation.LessOrEqual = true
is_long relation.Contains = true
is_long relation.BeginsWith = true
is_long relation.EndsWith = true

abbrev AreLong : Option Relation → Type 0
AreLong None = Unit {0}
AreLong (Some r) = is_long r ≡ true

three_long : (x y z : Relation) (a b c : Bool) → is_long x ≡ true → is_long y ≡ true → is_long z ≡ true → AreLong (cond a (Some x) (cond b (Some y) (cond c (Some z) None)))
three_long x y z true b c p q r = p
three_long x y z false true c p q r = q
three_long x y z false false true p q r = r
three_long x y z false false false p q r = tt

with_long : (r : Relation) (b : ℕ) → AreLong (relation_with r b)
with_long relation.Less b = three_long relation.LessOrEqual relation.BeginsWith relation.NotEqual (eqb b 61) (eqb b 60) (eqb b 62) refl refl refl
with_long relation.Greater b = three_long relation.GreaterOrEqual relation.Contains relation.EndsWith (eqb b 61) (eqb b 60) (eqb b 62) refl refl refl
with_long relation.Equal b = tt
with_long relation.NotEqual b = tt
with_long relation.GreaterOrEqual b = tt
with_long relation.LessOrEqual b = tt
with_long relation.Contains b = tt
with_long relation.BeginsWith b = tt
with_long relation.EndsWith b = tt

longest : (r q : Relation) (b c : ℕ) → relation_with r b ≡ Some q → relation_with q c ≡ None
longest r q b c e = by q (subst AreLong e (with_long r b))
  where
    by : (q : Relation) → is_long q ≡ true → relation_with q c ≡ None
    by relation.Less h = absurd cc
    by relation.Greater h = absurd cc
    by relation.Equal h = refl
    by relation.NotEqual h = refl
    by relation.GreaterOrEqual h = refl
    by relation.LessOrEqual h = refl
    by relation.Contains h = refl
    by relation.BeginsWith h = refl
    by relation.EndsWith h = refl

comparison_stops : (c : Comparison) (bs : List ℕ) → ((b : ℕ) → relation_with c.relation b ≡ None) → Stops (InComparison c) (Compares c) bs
comparison_stops c [] none = λ s. refl
comparison_stops c (b ∷ bs) none = ap (compares c.folds (Leaves (Compares c))) (none b)

by_token : (at n : ℕ) (s : State) (x : Token) (rest : List ℕ) → depth_at s ≤ 64 → left_at (at + n) (step s x) (drop n rest) ≡ by_front at s rest (front.Token x n)
by_token at n s x rest le = sym (shallow_is at s (left_at (at + n) (step s x) (drop n rest)) le)

-- an operator that its next byte makes no longer
pub comparison_is : (folds : Bool) (r : Relation) (rest : List ℕ) (n : ℕ) → 0 < n → n ≤ length rest → ((n < length rest) → relation_with r (get_or rest n 0) ≡ None)
    → Follows n (InComparison (record { relation = r; folds = folds })) ComparesValue rest (front.Token (Compares (record { relation = r; folds = folds })) n)
comparison_is folds r rest n some within ends =
    let c : Comparison = record { relation = r; folds = folds } in
    record {
      long = tt;
      within = (some, within);
      reads = λ at s such le. stop (at + n) s (InComparison c) (Compares c) (drop n rest) (by (drop n rest) refl) ∙ by_token at n s (Compares c) rest le;
    }
  where
    by : (bs : List ℕ) → bs ≡ drop n rest → Stops (InComparison (record { relation = r; folds = folds })) (Compares (record { relation = r; folds = folds })) bs
    by [] e = λ s. refl
    by (b ∷ bs) e =
        let longer : suc (length bs) ≡ length rest - n = ap length e ∙ length-drop n rest in
        let first : b ∷ bs ≡ get_or rest n 0 ∷ drop (n + 1) rest = e ∙ drop_more rest n 0 (omega arith) in
        let same : b ≡ get_or rest n 0 = cc in
        ap (compares folds (Leaves (Compares (record { relation = r; folds = folds })))) (ap (relation_with r) same ∙ ends (omega arith))

-- an operator that its next byte makes longer
pub comparison_grows : (folds : Bool) (r q : Relation) (rest : List ℕ) (n : ℕ) → n < length rest → relation_with r (get_or rest n 0) ≡ Some q
    → Follows n (InComparison (record { relation = r; folds = folds })) ComparesValue rest (front.Token (Compares (record { relation = q; folds = folds })) (n + 1))
comparison_grows folds r q rest n lt e =
    let c : Comparison = record { relation = r; folds = folds } in
    let d : Comparison = record { relation = q; folds = folds } in
    record {
      long = tt;
      within = (omega arith, omega arith);
      reads = λ at s such le.
          let place : at + n + 1 ≡ at + (n + 1) = omega arith in
          ap (λ (bs : List ℕ). read_from (at + n) bs (in_mode (InComparison c) s)) (drop_more rest n 0 lt)
          ∙ byte_grows (at + n) s (InComparison c) (InComparison d) (get_or rest n 0) (drop (n + 1) rest) le (ap (compares folds (Leaves (Compares c))) e) such
          ∙ ap (λ (p : ℕ). read_from p (drop (n + 1) rest) (in_mode (InComparison d) s)) place
          ∙ stop (at + (n + 1)) s (InComparison d) (Compares d) (drop (n + 1) rest) (comparison_stops d (drop (n + 1) rest) (λ b. longest r q (get_or rest n 0) b e))
          ∙ by_token at (n + 1) s (Compares d) rest le;
    }

-- `~` and what follows it
pub tilde_is : (r : Relation) (rest : List ℕ) (f : Front) → 1 < length rest → relation_by (get_or rest 1 0) ≡ Some r → Follows 2 (InComparison (record { relation = r; folds = true })) ComparesValue rest f → Follows 1 AfterTilde ComparesValue rest f
tilde_is r [] f lt e follows = absurd (omega arith)
tilde_is r (a ∷ []) f lt e follows = absurd (omega arith)
tilde_is r (a ∷ b ∷ bs) f lt e follows =
    record {
      long = follows.long;
      within = follows.within;
      reads = λ at s such le.
          let place : at + 1 + 1 ≡ at + 2 = omega arith in
          byte_grows (at + 1) s AfterTilde (InComparison (record { relation = r; folds = true })) b bs le (ap (compares true Wrong) e) such
          ∙ ap (λ (p : ℕ). read_from p bs (in_mode (InComparison (record { relation = r; folds = true })) s)) place
          ∙ follows.reads at s such le;
    }

pub tilde_dies : (rest : List ℕ) → 0 < length rest → ((1 < length rest) → relation_by (get_or rest 1 0) ≡ None) → Follows 1 AfterTilde ComparesValue rest (front.Dead 1)
tilde_dies [] some misses = absurd (omega arith)
tilde_dies (a ∷ []) some misses = record { long = tt; within = omega arith; reads = λ at s such le. sym (shallow_is at s (Err (Syntax (at + 1))) le) }
tilde_dies (a ∷ b ∷ bs) some misses =
    record {
      long = tt;
      within = omega arith;
      reads = λ at s such le. byte_wrong (at + 1) s AfterTilde b bs (ap (compares true Wrong) (misses (omega arith))) ∙ sym (shallow_is at s (Err (Syntax (at + 1))) le);
    }

-- ---- blanks and brackets

pub blank_is : (Such : State → Type 0) (rest : List ℕ) → 0 < length rest → is_blank (get_or rest 0 0) ≡ true → IsAt Such rest front.Blank
blank_is Such [] some is = absurd (omega arith)
blank_is Such (b ∷ bs) some is =
    record {
      within = tt;
      reads = λ at s such.
          ap (λ (v : Move). goes_on at (first_at s v) (read_from (at + 1) bs)) (begin-blank b is)
          ∙ shallow_same at s (read_from (at + 1) bs (between s)) (read_at (at + 1) s bs) (λ le. between_reads (at + 1) s bs);
    }

pub bracket_is : (Such : State → Type 0) (rest : List ℕ) (x : Token) → 0 < length rest → begin (get_or rest 0 0) ≡ Takes x → IsAt Such rest (front.Bracket x)
bracket_is Such [] x some is = absurd (omega arith)
bracket_is Such (b ∷ bs) x some is = record { within = tt; reads = λ at s such. ap (λ (v : Move). goes_on at (first_at s v) (read_from (at + 1) bs)) is }
