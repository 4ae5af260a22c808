-- Where the machine ends is the place of the fault.
use Rattle.std.proofs.Common.{◌≡◌, ℕ, suc, ◌+◌, ◌<◌, ◌≤◌, leb, Bool, true, false, cond, length, get_or, take, drop, List, [], ◌∷◌, ◌++◌, Option, Some, None, refl, sym, ap, subst, ◌∙◌, append_assoc, arith, inl, inr, ◌⊎◌}
use Rattle.std.specs.Prelude.{option_and_then, option_map}
use Rattle.std.proofs.lemmas.Bool.{cases_Bool, cases_lt, le-leb, lt-leb, leb-true}
use Rattle.std.proofs.lemmas.List.{take_more, take_all, take-append-drop, append-nil, take-take}
use Rattle.mi_cond.proofs.Basics.{none_some, guard_some, then_some}
use Rattle.mi_cond.specs.declared.error.CondFault.TheVariants as fault
use Rattle.mi_cond.specs.declared.token.Token.{Token}
use Rattle.mi_cond.specs.declared.token.Token.TheVariants.{Open, Close, Negate, Join, Operand, Compare as Compares}
use Rattle.mi_cond.specs.Tree.{Tree, Alone, Compare}
use Rattle.mi_cond.specs.Lex.{all_ops, is_good}
use Rattle.mi_cond.specs.Grammar.{Reads}
use Rattle.mi_cond.specs.Place.{Begins, IsRead, IsPlace, IsConditionFault}
use Rattle.mi_cond.specs.Steps.{Frame, fresh, negated, whole, depth, State, Wants, HasValue, WantsRight, Has, depth_at, joins, closes, step, end_of}
use Rattle.mi_cond.specs.Moves.{Mode, Nothing, InWord, InSymbol, InLiteral, AfterMinus, InDigits, AfterTilde, InComparison, Move, Grows, Takes, Leaves, Wrong, finished, begin, move, Place, may_stand, within, between, first_at, after, byte, end_in, read_end}
use Rattle.mi_cond.proofs.Runs.{limited, step_to, run}
use Rattle.mi_cond.proofs.Complete.{condition_is_read}
use Rattle.mi_cond.proofs.Sound.{what_is_read}
use Rattle.mi_cond.proofs.Lexer.{one_token, tokens_in, first_to, after_to, byte_to, bytes_to, read_in, read}
use Rattle.mi_cond.proofs.ByteSteps.{bytes-read}
use Rattle.mi_cond.proofs.ByteEnds.{Live, ends_live, bytes_live}
use Rattle.mi_cond.proofs.LexLaws.{tokens_are, are_tokens}

abbrev pub start : Place
start = between (Wants [] fresh)

-- ---- what is read

some_back : (limit : ℕ) (o : Option (List Token)) (t : Tree) → option_and_then (run limit (Wants [] fresh)) o ≡ Some t → (ts : List Token) × (o ≡ Some ts) × (run limit (Wants [] fresh) ts ≡ Some t)
some_back limit None t e = none_some t e
some_back limit (Some ts) t e = (ts, refl, e)

reads_from : (limit : ℕ) (text : List ℕ) (t : Tree) → read limit start text ≡ Some t → Reads limit text t
unfolding Reads
reads_from limit text t e = let b = some_back limit (tokens_in Nothing text) t e in (b.0, tokens_are text b.0 b.1, what_is_read limit b.0 t b.2)

reads_back : (limit n : ℕ) (text : List ℕ) (t : Tree) → n ≤ limit → Reads n text t → read limit start text ≡ Some t
unfolding Reads
reads_back limit n text t le r = ap (option_and_then (run limit (Wants [] fresh))) (are_tokens r.0 text r.1) ∙ condition_is_read limit n r.0 t le r.2

-- a text reads as at most one tree
pub reads_one : (n m : ℕ) (text : List ℕ) (t u : Tree) → Reads n text t → Reads m text u → t ≡ u
reads_one n m text t u r s =
    let one = reads_back (n + m) n text t (omega arith) r in
    let two = reads_back (n + m) m text u (omega arith) s in
    cc

-- ---- fronts

start_live : (limit : ℕ) → Live limit start
start_live limit = record { stands = refl; shallow = omega arith }

-- a front that the machine took begins a condition
lives_begins : (limit : ℕ) (front : List ℕ) (q : Place) → bytes_to limit start front ≡ Some q → Begins limit front
lives_begins limit front q e =
    let f = ends_live limit q (bytes_live limit start front q (start_live limit) e) in
    record { rest = f.0; tree = f.1; reads = reads_from limit (front ++ f.0) f.1 (bytes-read limit start front f.0 ∙ ap (option_and_then (λ (x : Place). read limit x f.0)) e ∙ f.2) }

-- a front at which it died begins none
dies_begins_none : (limit n : ℕ) (front : List ℕ) → n ≤ limit → bytes_to limit start front ≡ None → Begins n front → ⊥
dies_begins_none limit n front le e b =
    let all = reads_back limit n (front ++ b.rest) b.tree le b.reads in
    let dead : read limit start (front ++ b.rest) ≡ None = bytes-read limit start front b.rest ∙ ap (option_and_then (λ (x : Place). read limit x b.rest)) e in
    absurd cc

-- a shorter front begins it too
shorter : (n i k : ℕ) (text : List ℕ) → i ≤ k → Begins n (take k text) → Begins n (take i text)
shorter n i k text le b =
    let front : take i (take k text) ≡ take i text = take-take i k text le in
    let whole : (take i text) ++ (drop i (take k text) ++ b.rest) ≡ take k text ++ b.rest =
    ap (λ (u : List ℕ). u ++ (drop i (take k text) ++ b.rest)) (sym front) ∙ sym (append_assoc (take i (take k text)) (drop i (take k text)) b.rest) ∙ ap (λ (u : List ℕ). u ++ b.rest) (take-append-drop i (take k text)) in
    record { rest = drop i (take k text) ++ b.rest; tree = b.tree; reads = subst (λ (u : List ℕ). Reads n u b.tree) (sym whole) b.reads }

text_begins : (n i : ℕ) (text : List ℕ) (t : Tree) → Reads n text t → Begins n (take i text)
text_begins n i text t r = record { rest = drop i text; tree = t; reads = subst (λ (u : List ℕ). Reads n u t) (sym (take-append-drop i text)) r }

-- ---- the machine without a limit, which is asked for after each byte

abbrev is_wants : State → Bool
is_wants (Wants below f) = true
is_wants (HasValue below f v) = false
is_wants (WantsRight below f l c) = false
is_wants (Has below rows t) = false

Either : State → State → Type 0
Either s n = (depth_at n ≤ depth_at s) ⊎ (is_wants n ≡ true)

is_either : (s m n : State) → Some m ≡ Some n → (depth_at m ≤ depth_at s) ⊎ (is_wants m ≡ true) → Either s n
unfolding Either
is_either s m n e h = let same : m ≡ n = cc in subst (λ (k : State). (depth_at k ≤ depth_at s) ⊎ (is_wants k ≡ true)) same h

closes_either : (s : State) (below : List Frame) (rows : List (Option Tree)) (t : Tree) (n : State) → depth below ≤ depth_at s → closes below rows t ≡ Some n → Either s n
closes_either s [] rows t n le e = none_some n e
closes_either s (f ∷ below) rows t n le e = is_either s (Has below f.rows (negated f.nots (whole all_ops rows t))) n e (inl (omega arith))

-- only a factor that is wanted nests deeper
step_either : (s : State) (x : Token) (n : State) → step s x ≡ Some n → Either s n
step_either (Wants below f) Open n e = is_either (Wants below f) (Wants (f ∷ below) fresh) n e (inr refl)
step_either (Wants below f) Close n e = none_some n e
step_either (Wants below f) Negate n e = is_either (Wants below f) (Wants below (record { nots = suc f.nots; rows = f.rows })) n e (inr refl)
step_either (Wants below f) (Join o) n e = none_some n e
step_either (Wants below f) (Compares c) n e = none_some n e
step_either (Wants below f) (Operand v) n e = let g = guard_some (is_good v) (Some (HasValue below f v)) n e in is_either (Wants below f) (HasValue below f v) n g.1 (inl (omega arith))
step_either (HasValue below f v) Open n e = none_some n e
step_either (HasValue below f v) Close n e = closes_either (HasValue below f v) below f.rows (negated f.nots (Alone v)) n (omega arith) e
step_either (HasValue below f v) Negate n e = none_some n e
step_either (HasValue below f v) (Join o) n e = is_either (HasValue below f v) (joins below f.rows (negated f.nots (Alone v)) o) n e (inr refl)
step_either (HasValue below f v) (Compares c) n e = is_either (HasValue below f v) (WantsRight below f v c) n e (inl (omega arith))
step_either (HasValue below f v) (Operand w) n e = none_some n e
step_either (WantsRight below f l c) Open n e = none_some n e
step_either (WantsRight below f l c) Close n e = none_some n e
step_either (WantsRight below f l c) Negate n e = none_some n e
step_either (WantsRight below f l c) (Join o) n e = none_some n e
step_either (WantsRight below f l c) (Compares d) n e = none_some n e
step_either (WantsRight below f l c) (Operand r) n e =
    let next : State = Has below f.rows (negated f.nots (Compare c l r)) in
    let g = guard_some (is_good r) (Some next) n e in is_either (WantsRight below f l c) next n g.1 (inl (omega arith))
step_either (Has below rows t) Open n e = none_some n e
step_either (Has below rows t) Close n e = closes_either (Has below rows t) below rows t n (omega arith) e
step_either (Has below rows t) Negate n e = none_some n e
step_either (Has below rows t) (Join o) n e = is_either (Has below rows t) (joins below rows t o) n e (inr refl)
step_either (Has below rows t) (Compares c) n e = none_some n e
step_either (Has below rows t) (Operand v) n e = none_some n e

is_deep : (s m n : State) → Some m ≡ Some n → depth_at s ≤ depth_at m → depth_at s ≤ depth_at n
is_deep s m n e h = let same : m ≡ n = cc in subst (λ (k : State). depth_at s ≤ depth_at k) same h

-- behind a factor that is wanted nothing closes
wants_deep : (s : State) (x : Token) (n : State) → is_wants s ≡ true → step s x ≡ Some n → depth_at s ≤ depth_at n
wants_deep (Wants below f) Open n w e = is_deep (Wants below f) (Wants (f ∷ below) fresh) n e (omega arith)
wants_deep (Wants below f) Close n w e = none_some n e
wants_deep (Wants below f) Negate n w e = is_deep (Wants below f) (Wants below (record { nots = suc f.nots; rows = f.rows })) n e (omega arith)
wants_deep (Wants below f) (Join o) n w e = none_some n e
wants_deep (Wants below f) (Compares c) n w e = none_some n e
wants_deep (Wants below f) (Operand v) n w e = let g = guard_some (is_good v) (Some (HasValue below f v)) n e in is_deep (Wants below f) (HasValue below f v) n g.1 (omega arith)
wants_deep (HasValue below f v) x n w e = absurd cc
wants_deep (WantsRight below f l c) x n w e = absurd cc
wants_deep (Has below rows t) x n w e = absurd cc

within_state : (s : State) (m : Mode) (q : Place) → within s m ≡ Some q → s ≡ q.state
within_state s m q e =
    let g = guard_some (may_stand s m) (Some (record { mode = m; state = s })) q e in
    let is : Some (record { mode = m; state = s }) ≡ Some q = g.1 in
    let same : record { mode = m; state = s } ≡ q = cc in
    ap (λ (p : Place). p.state) same

taken_state : (o : Option State) (q : Place) → option_map between o ≡ Some q → (n : State) × (o ≡ Some n) × (n ≡ q.state) × (between n ≡ q)
taken_state None q e = none_some q e
taken_state (Some n) q e = let same : between n ≡ q = cc in (n, refl, ap (λ (p : Place). p.state) same, same)

fits : (limit : ℕ) (n : State) → depth_at n ≤ limit → limited limit n ≡ Some n
fits limit n le = ap (λ (b : Bool). cond b (Some n) None) (le-leb _ _ le)

passes : (limit : ℕ) (n : State) → limit < depth_at n → limited limit n ≡ None
passes limit n lt = ap (λ (b : Bool). cond b (Some n) None) (lt-leb _ _ lt)

step_fits : (limit : ℕ) (s : State) (x : Token) (n : State) → step s x ≡ Some n → depth_at n ≤ limit → step_to limit s x ≡ Some n
step_fits limit s x n e le = ap (option_and_then (limited limit)) e ∙ fits limit n le

step_passes : (limit : ℕ) (s : State) (x : Token) (n : State) → step s x ≡ Some n → limit < depth_at n → step_to limit s x ≡ None
step_passes limit s x n e lt = ap (option_and_then (limited limit)) e ∙ passes limit n lt

-- a token that ended before the byte left the place no deeper than the byte does
first_deep : (s : State) (v : Move) (q : Place) → is_wants s ≡ true → first_at s v ≡ Some q → depth_at s ≤ depth_at q.state
first_deep s (Grows m) q w e = let same = within_state s m q e in subst (λ (k : State). depth_at s ≤ depth_at k) same (omega arith)
first_deep s (Takes x) q w e = let t = taken_state (step s x) q e in subst (λ (k : State). depth_at s ≤ depth_at k) t.2 (wants_deep s x t.0 w t.1)
first_deep s (Leaves x) q w e = none_some q e
first_deep s Wrong q w e = none_some q e

middle : (limit : ℕ) (s : State) (x : Token) (n : State) (v : Move) (q : Place) → step s x ≡ Some n → first_at n v ≡ Some q → depth_at s ≤ limit → depth_at q.state ≤ limit → depth_at n ≤ limit
unfolding Either
middle limit s x n v q e f le fits =
    elim (step_either s x n e) [
      | inl less ↦ omega arith
      | inr wants ↦ let deep = first_deep n v q wants f in omega arith
    ]

first_limits : (limit : ℕ) (s : State) (v : Move) (q : Place) → first_at s v ≡ Some q → depth_at q.state ≤ limit → first_to limit s v ≡ Some q
first_limits limit s (Grows m) q e le = e
first_limits limit s (Takes x) q e le =
    let t = taken_state (step s x) q e in
    ap (option_map between) (step_fits limit s x t.0 t.1 (subst (λ (k : State). depth_at k ≤ limit) (sym t.2) le)) ∙ ap Some t.3
first_limits limit s (Leaves x) q e le = none_some q e
first_limits limit s Wrong q e le = none_some q e

after_limits : (limit : ℕ) (s : State) (b : ℕ) (v : Move) (q : Place) → after s b v ≡ Some q → depth_at s ≤ limit → depth_at q.state ≤ limit → after_to limit s b v ≡ Some q
after_limits limit s b (Grows m) q e shallow le = e
after_limits limit s b (Takes x) q e shallow le = first_limits limit s (Takes x) q e le
after_limits limit s b (Leaves x) q e shallow le =
    let t = then_some (λ n. first_at n (begin b)) (step s x) q e in
    ap (option_and_then (λ (n : State). first_to limit n (begin b))) (step_fits limit s x t.0 t.1 (middle limit s x t.0 (begin b) q t.1 t.2 shallow le)) ∙ first_limits limit t.0 (begin b) q t.2 le
after_limits limit s b Wrong q e shallow le = none_some q e

first_passes : (limit : ℕ) (s : State) (v : Move) (q : Place) → first_at s v ≡ Some q → depth_at s ≤ limit → limit < depth_at q.state → first_to limit s v ≡ None
first_passes limit s (Grows m) q e le lt = let same = within_state s m q e in let less : depth_at q.state ≤ limit = subst (λ (k : State). depth_at k ≤ limit) same le in absurd (omega arith)
first_passes limit s (Takes x) q e le lt =
    let t = taken_state (step s x) q e in
    ap (option_map between) (step_passes limit s x t.0 t.1 (subst (λ (k : State). limit < depth_at k) (sym t.2) lt))
first_passes limit s (Leaves x) q e le lt = refl
first_passes limit s Wrong q e le lt = refl

then_passes : (limit : ℕ) (n : State) (v : Move) (q : Place) → first_at n v ≡ Some q → limit < depth_at q.state → option_and_then (λ m. first_to limit m v) (limited limit n) ≡ None
then_passes limit n v q e lt =
    elim (cases_Bool (leb (depth_at n) limit)) [
      | inl is ↦ ap (option_and_then (λ (m : State). first_to limit m v)) (fits limit n (leb-true _ _ is)) ∙ first_passes limit n v q e (leb-true _ _ is) lt
      | inr is ↦ ap (λ (b : Bool). option_and_then (λ (m : State). first_to limit m v) (cond b (Some n) None)) is
    ]

after_passes : (limit : ℕ) (s : State) (b : ℕ) (v : Move) (q : Place) → after s b v ≡ Some q → depth_at s ≤ limit → limit < depth_at q.state → after_to limit s b v ≡ None
after_passes limit s b (Grows m) q e le lt = let none : within s m ≡ None = first_passes limit s (Grows m) q e le lt in none
after_passes limit s b (Takes x) q e le lt = first_passes limit s (Takes x) q e le lt
after_passes limit s b (Leaves x) q e le lt =
    let t = then_some (λ n. first_at n (begin b)) (step s x) q e in
    ap (λ (o : Option State). option_and_then (λ (n : State). first_to limit n (begin b)) (option_and_then (limited limit) o)) t.1 ∙ then_passes limit t.0 (begin b) q t.2 lt
after_passes limit s b Wrong q e le lt = refl

map_none : (o : Option State) → option_map between o ≡ None → o ≡ None
map_none None e = refl
map_none (Some n) e = absurd cc

first_dies : (limit : ℕ) (s : State) (v : Move) → first_at s v ≡ None → first_to limit s v ≡ None
first_dies limit s (Grows m) e = e
first_dies limit s (Takes x) e = ap (λ (o : Option State). option_map between (option_and_then (limited limit) o)) (map_none (step s x) e)
first_dies limit s (Leaves x) e = refl
first_dies limit s Wrong e = refl

then_dies : (limit : ℕ) (o : Option State) (v : Move) → option_and_then (λ n. first_at n v) o ≡ None → option_and_then (λ n. first_to limit n v) (option_and_then (limited limit) o) ≡ None
then_dies limit None v e = refl
then_dies limit (Some n) v e =
    elim (cases_Bool (leb (depth_at n) limit)) [
      | inl is ↦ ap (option_and_then (λ (m : State). first_to limit m v)) (fits limit n (leb-true _ _ is)) ∙ first_dies limit n v e
      | inr is ↦ ap (λ (b : Bool). option_and_then (λ (m : State). first_to limit m v) (cond b (Some n) None)) is
    ]

after_dies : (limit : ℕ) (s : State) (b : ℕ) (v : Move) → after s b v ≡ None → after_to limit s b v ≡ None
after_dies limit s b (Grows m) e = e
after_dies limit s b (Takes x) e = first_dies limit s (Takes x) e
after_dies limit s b (Leaves x) e = then_dies limit (step s x) (begin b) e
after_dies limit s b Wrong e = refl

-- ---- the loop over a text

-- the bytes up to i led to p, whatever the limit
pub record Taken (text : List ℕ) (i : ℕ) (p : Place) : Type 0 where
  pub shallow : depth_at p.state ≤ 64
  pub at : (limit : ℕ) → 64 ≤ limit → bytes_to limit start (take i text) ≡ Some p

pub taken_none : (text : List ℕ) → Taken text 0 start
taken_none text = record { shallow = omega arith; at = λ limit le. refl }

through : (limit : ℕ) (o : Option Place) (xs : List ℕ) (b : ℕ) → ((q : Place) → bytes_to limit q (xs ++ b ∷ []) ≡ option_and_then (λ r. byte_to limit r b) (bytes_to limit q xs))
    → option_and_then (λ q. bytes_to limit q (xs ++ b ∷ [])) o ≡ option_and_then (λ q. byte_to limit q b) (option_and_then (λ q. bytes_to limit q xs) o)
through limit None xs b h = refl
through limit (Some q) xs b h = h q

bytes-push : (limit : ℕ) (p : Place) (xs : List ℕ) (b : ℕ) → bytes_to limit p (xs ++ b ∷ []) ≡ option_and_then (λ q. byte_to limit q b) (bytes_to limit p xs)
bytes-push limit p [] b = one (byte_to limit p b)
  where
    one : (o : Option Place) → option_and_then (λ q. bytes_to limit q []) o ≡ o
    one None = refl
    one (Some q) = refl
bytes-push limit p (x ∷ xs) b = through limit (byte_to limit p x) xs b (λ q. bytes-push limit q xs b)

-- one byte more
goes_on : (text : List ℕ) (i : ℕ) (p : Place) (limit : ℕ) → i < length text → Taken text i p → 64 ≤ limit → bytes_to limit start (take (i + 1) text) ≡ byte_to limit p (get_or text i 0)
goes_on text i p limit lt t le =
    ap (bytes_to limit start) (take_more text i 0 lt) ∙ bytes-push limit start (take i text) (get_or text i 0) ∙ ap (option_and_then (λ (q : Place). byte_to limit q (get_or text i 0))) (t.at limit le)

pub taken_more : (text : List ℕ) (i : ℕ) (p q : Place) (b : ℕ) → i < length text → b ≡ get_or text i 0 → Taken text i p → byte p b ≡ Some q → depth_at q.state ≤ 64 → Taken text (i + 1) q
taken_more text i p q b lt is t e shallow =
    record {
      shallow = shallow;
      at = λ limit le. goes_on text i p limit lt t le ∙ ap (byte_to limit p) (sym is) ∙ after_limits limit p.state b (move p.mode b) q e (omega (arith, t.shallow)) (omega arith);
    }

-- the machine dies at i where it has the limit
stops : (text : List ℕ) (i : ℕ) (p : Place) → i < length text → Taken text i p → bytes_to 64 start (take (i + 1) text) ≡ None → IsPlace text i
stops text i p lt t dead =
    record {
      none = λ u r. dies_begins_none 64 64 (take (i + 1) text) (omega arith) dead (text_begins 64 (i + 1) text u r);
      in_text = omega arith;
      begins = lives_begins 64 (take i text) p (t.at 64 (omega arith));
      longest = λ k le b. elim (cases_lt i k) [
        | inl more ↦ absurd (dies_begins_none 64 64 (take (i + 1) text) (omega arith) dead (shorter 64 (i + 1) k text (omega arith) b))
        | inr less ↦ less
      ];
    }

pub wrong_byte : (text : List ℕ) (i : ℕ) (p : Place) (b : ℕ) → i < length text → b ≡ get_or text i 0 → Taken text i p → byte p b ≡ None → IsConditionFault (fault.Syntax i) text
wrong_byte text i p b lt is t e =
    let dead : (limit : ℕ) → 64 ≤ limit → bytes_to limit start (take (i + 1) text) ≡ None =
    λ limit le. goes_on text i p limit lt t le ∙ ap (byte_to limit p) (sym is) ∙ after_dies limit p.state b (move p.mode b) e in
    let next : suc i ≡ i + 1 = omega arith in (
      stops text i p lt t (dead 64 (omega arith)),
      λ d. dies_begins_none (64 + d.nesting) d.nesting (take (i + 1) text) (omega arith) (dead (64 + d.nesting) (omega arith)) (subst (λ (k : ℕ). Begins d.nesting (take k text)) next d.begins),
    )

pub deep_byte : (text : List ℕ) (i : ℕ) (p q : Place) (b : ℕ) → i < length text → b ≡ get_or text i 0 → Taken text i p → byte p b ≡ Some q → 64 < depth_at q.state → IsConditionFault (fault.TooDeep i) text
deep_byte text i p q b lt is t e deep =
    let next : i + 1 ≡ suc i = omega arith in
    let dead = goes_on text i p 64 lt t (omega arith) ∙ ap (byte_to 64 p) (sym is) ∙ after_passes 64 p.state b (move p.mode b) q e t.shallow deep in
    let limit : ℕ = depth_at q.state in
    let lives : bytes_to limit start (take (i + 1) text) ≡ Some q = goes_on text i p limit lt t (omega arith) ∙ ap (byte_to limit p) (sym is) ∙ after_limits limit p.state b (move p.mode b) q e (omega (arith, t.shallow)) (omega arith) in
    (stops text i p lt t dead, record { next = lt; nesting = limit; begins = subst (λ (k : ℕ). Begins limit (take k text)) next (lives_begins limit (take (i + 1) text) q lives) })

-- ---- the end of a text

end_step : (limit : ℕ) (s : State) (o : Option State) → ((n : State) → o ≡ Some n → Either s n) → depth_at s ≤ limit → option_and_then (λ n. run limit n []) (option_and_then (limited limit) o) ≡ option_and_then end_of o
unfolding Either
end_step limit s None h le = refl
end_step limit s (Some n) h le =
    elim (cases_Bool (leb (depth_at n) limit)) [
      | inl is ↦ ap (option_and_then (λ (m : State). run limit m [])) (fits limit n (leb-true _ _ is))
      | inr is ↦ ap (λ (b : Bool). option_and_then (λ (m : State). run limit m []) (cond b (Some n) None)) is ∙ sym (ended_none n (h n refl) is)
    ]
  where
    wants_none : (n : State) → is_wants n ≡ true → end_of n ≡ None
    wants_none (Wants below f) w = refl
    wants_none (HasValue below f v) w = absurd cc
    wants_none (WantsRight below f l c) w = refl
    wants_none (Has below rows t) w = absurd cc

    ended_none : (n : State) → (depth_at n ≤ depth_at s) ⊎ (is_wants n ≡ true) → leb (depth_at n) limit ≡ false → end_of n ≡ None
    ended_none n (inl less) is = let fine : leb (depth_at n) limit ≡ true = le-leb _ _ (omega arith) in absurd cc
    ended_none n (inr wants) is = wants_none n wants

end_token : (limit : ℕ) (s : State) (o : Option Token) → depth_at s ≤ limit → option_and_then (run limit s) (one_token o) ≡ option_and_then (λ x. option_and_then end_of (step s x)) o
end_token limit s None le = refl
end_token limit s (Some x) le = end_step limit s (step s x) (λ n e. step_either s x n e) le

end_is_read : (limit : ℕ) (m : Mode) (s : State) → depth_at s ≤ limit → read_in limit m s [] ≡ end_in m s
end_is_read limit Nothing s le = refl
end_is_read limit (InWord w) s le = end_token limit s (finished (InWord w)) le
end_is_read limit (InSymbol k w) s le = end_token limit s (finished (InSymbol k w)) le
end_is_read limit (InLiteral text) s le = refl
end_is_read limit AfterMinus s le = refl
end_is_read limit (InDigits negative n) s le = end_token limit s (finished (InDigits negative n)) le
end_is_read limit AfterTilde s le = refl
end_is_read limit (InComparison c) s le = end_token limit s (finished (InComparison c)) le

whole_text : (text : List ℕ) (i : ℕ) (p : Place) → length text ≤ i → Taken text i p → read 64 start text ≡ read_end p
whole_text text i p le t =
    let all : take i text ≡ text = take_all i text le in
    ap (read 64 start) (sym (append-nil text)) ∙ bytes-read 64 start text [] ∙ ap (λ (u : List ℕ). option_and_then (λ q. read 64 q []) (bytes_to 64 start u)) (sym all)
    ∙ ap (option_and_then (λ (q : Place). read 64 q [])) (t.at 64 (omega arith)) ∙ end_is_read 64 p.mode p.state t.shallow

pub text_read : (text : List ℕ) (i : ℕ) (p : Place) (t : Tree) → length text ≤ i → Taken text i p → read_end p ≡ Some t → Reads 64 text t
text_read text i p t le taken e = reads_from 64 text t (whole_text text i p le taken ∙ e)

pub text_ended : (text : List ℕ) (i : ℕ) (p : Place) → i ≡ length text → Taken text i p → read_end p ≡ None → IsConditionFault (fault.Syntax i) text
text_ended text i p is t e =
    let dead : read 64 start text ≡ None = whole_text text i p (omega arith) t ∙ e in (
      record {
        none = λ u r. let k = reads_back 64 64 text u (omega arith) r in absurd cc;
        in_text = omega arith;
        begins = lives_begins 64 (take i text) p (t.at 64 (omega arith));
        longest = λ k le b. omega arith;
      },
      λ d. let next = d.next in absurd (omega arith),
    )

pub text_is_read : (text : List ℕ) (i : ℕ) (p : Place) (t : Tree) → length text ≤ i → Taken text i p → read_end p ≡ Some t → IsRead text t
text_is_read text i p t le taken e =
    let r = text_read text i p t le taken e in
    record { reads = r; only = λ n u s. reads_one n 64 text u t s r }
