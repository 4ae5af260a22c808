-- Each place that the machine reaches can be ended.
use Rattle.std.proofs.Common.{◌≡◌, ℕ, ◌+◌, ◌<◌, ◌≤◌, lit<, eqb, leb, Bool, true, false, cond, not, List, [], ◌∷◌, ◌++◌, Option, Some, None, refl, sym, ap, subst, ◌∙◌, append_assoc, arith, inl, inr}
use Rattle.std.specs.Prelude.{option_and_then, option_map, codes}
use Rattle.std.specs.Char.{to_ascii_lowercase}
use Rattle.std.specs.Str.{bytes_eq}
use Rattle.std.proofs.lemmas.Bool.{cases_Bool, eqb-true, leb-true}
use Rattle.std.proofs.lemmas.Slice.Eq.{bytes_eq-Decides}
use Rattle.std.proofs.lemmas.List.{map-append, append-nil}
use Rattle.mi_text.specs.Fold.{folded}
use Rattle.mi_cond.proofs.Basics.{and_true, or_true, push-is_empty}
use Rattle.mi_cond.specs.declared.operand.Operator.{Operator}
use Rattle.mi_cond.specs.declared.operand.Operator.TheVariants as op
use Rattle.mi_cond.specs.declared.operand.Relation.{Relation}
use Rattle.mi_cond.specs.declared.operand.Relation.TheVariants as relation
use Rattle.mi_cond.specs.declared.operand.Comparison.{Comparison}
use Rattle.mi_cond.specs.declared.operand.Value.{Value}
use Rattle.mi_cond.specs.declared.operand.Value.TheVariants as value
use Rattle.mi_cond.specs.declared.token.Mark.{Mark}
use Rattle.mi_cond.specs.declared.token.Mark.TheVariants as mark
use Rattle.mi_cond.specs.declared.token.Token.{Token}
use Rattle.mi_cond.specs.declared.token.Token.TheVariants.{Close, Negate, Join, Operand, Compare as Compares}
use Rattle.mi_cond.specs.Tree.{Tree, Alone, Compare}
use Rattle.mi_cond.specs.Integer.{signed}
use Rattle.mi_cond.specs.Lex.{is_name_byte, is_keyword, keyword, all_ops, operator_in, is_good}
use Rattle.mi_cond.specs.Steps.{Frame, negated, whole, depth, State, Wants, HasValue, WantsRight, Has, depth_at, joins, step, wants_value, has_value}
use Rattle.mi_cond.specs.Moves.{Mode, Nothing, InWord, InSymbol, InLiteral, AfterMinus, InDigits, AfterTilde, InComparison, Move, Grows, Takes, Leaves, Wrong, named, relation_with, begin, move, Place, begins_with, begins_operator, may_stand, within, between, or_property, word}
use Rattle.mi_cond.proofs.Runs.{limited, step_to, run}
use Rattle.mi_cond.proofs.Complete.{NoCompare, goes, settles}
use Rattle.mi_cond.proofs.Lexer.{then_token, tokens_in, first_to, after_to, byte_to, bytes_to, read_in, read}
use Rattle.mi_cond.proofs.ByteSteps.{pick, nat_abs-signed}

-- ---- brackets

close_text : List Frame → List ℕ
close_text [] = []
close_text (f ∷ below) = 41 ∷ close_text below

abbrev close_tokens : List Frame → List Token
close_tokens [] = []
close_tokens (f ∷ below) = Close ∷ close_tokens below

tokens-close : (below : List Frame) → tokens_in Nothing (close_text below) ≡ Some (close_tokens below)
unfolding close_text
tokens-close [] = refl
tokens-close (f ∷ below) = ap (then_token Close) (tokens-close below)

close_no_compare : (below : List Frame) → NoCompare (close_tokens below)
close_no_compare [] = tt
close_no_compare (f ∷ below) = tt

ends_have : (limit : ℕ) (below : List Frame) (rows : List (Option Tree)) (t : Tree) → depth below ≤ limit → (r : Tree) × (run limit (Has below rows t) (close_tokens below) ≡ Some r)
ends_have limit [] rows t le = (whole all_ops rows t, refl)
ends_have limit (f ∷ below) rows t le =
    let next : State = Has below f.rows (negated f.nots (whole all_ops rows t)) in
    let e = ends_have limit below f.rows (negated f.nots (whole all_ops rows t)) (omega arith) in
    (e.0, goes limit next (close_tokens below) (omega arith) ∙ e.1)

-- ---- what ends a place

record Ends (limit : ℕ) (m : Mode) (s : State) : Type 0 where
  text : List ℕ
  tree : Tree
  reads : read_in limit m s text ≡ Some tree

-- brackets that close end a state in which they may
has_ends : (limit : ℕ) (below : List Frame) (rows : List (Option Tree)) (t : Tree) → depth below ≤ limit → Ends limit Nothing (Has below rows t)
has_ends limit below rows t le =
    let e = ends_have limit below rows t le in
    record { text = close_text below; tree = e.0; reads = ap (option_and_then (run limit (Has below rows t))) (tokens-close below) ∙ e.1 }

value_ends : (limit : ℕ) (below : List Frame) (f : Frame) (v : Value) → depth below ≤ limit → Ends limit Nothing (HasValue below f v)
value_ends limit below f v le =
    let e = ends_have limit below f.rows (negated f.nots (Alone v)) le in
    record { text = close_text below; tree = e.0; reads = ap (option_and_then (run limit (HasValue below f v))) (tokens-close below) ∙ settles limit below f v (close_tokens below) (close_no_compare below) ∙ e.1 }

-- a token that is ended by v leads to a place that can be ended
finishing : (limit : ℕ) (m : Mode) (s : State) (v : List ℕ) (x : Token) (n : State) → ((rest : List ℕ) → tokens_in m (v ++ rest) ≡ then_token x (tokens_in Nothing rest)) → step s x ≡ Some n → depth_at n ≤ limit → Ends limit Nothing n → Ends limit m s
finishing limit m s v x n lexes steps le e =
    record {
      text = v ++ e.text;
      tree = e.tree;
      reads = ap (option_and_then (run limit s)) (lexes e.text) ∙ one (tokens_in Nothing e.text) e.reads;
    }
  where
    one : (o : Option (List Token)) → option_and_then (run limit n) o ≡ Some e.tree → option_and_then (run limit s) (then_token x o) ≡ Some e.tree
    one None r = absurd cc
    one (Some ts) r = ap (λ (p : Option State). option_and_then (λ k. run limit k ts) (option_and_then (limited limit) p)) steps ∙ goes limit n ts le ∙ r

-- a value ends a place where one is wanted
valued : (limit : ℕ) (m : Mode) (s : State) (v : List ℕ) (x : Value) → ((rest : List ℕ) → tokens_in m (v ++ rest) ≡ then_token (Operand x) (tokens_in Nothing rest)) → is_good x ≡ true → wants_value s ≡ true → depth_at s ≤ limit → Ends limit m s
valued limit m (Wants below f) v x lexes good w le =
    finishing limit m (Wants below f) v (Operand x) (HasValue below f x) lexes (ap (λ (b : Bool). cond b (Some (HasValue below f x)) None) good) le (value_ends limit below f x (omega arith))
valued limit m (HasValue below f y) v x lexes good w le = absurd cc
valued limit m (WantsRight below f l c) v x lexes good w le =
    let next : State = Has below f.rows (negated f.nots (Compare c l x)) in
    finishing limit m (WantsRight below f l c) v (Operand x) next lexes (ap (λ (b : Bool). cond b (Some next) None) good) (omega arith) (has_ends limit below f.rows (negated f.nots (Compare c l x)) (omega arith))
valued limit m (Has below rows t) v x lexes good w le = absurd cc

ends_between : (limit : ℕ) (s : State) → depth_at s ≤ limit → Ends limit Nothing s
ends_between limit (Wants below f) le = valued limit Nothing (Wants below f) (97 ∷ 32 ∷ []) (value.Property (97 ∷ [])) (λ rest. refl) refl refl le
ends_between limit (HasValue below f v) le = value_ends limit below f v (omega arith)
ends_between limit (WantsRight below f l c) le = valued limit Nothing (WantsRight below f l c) (97 ∷ 32 ∷ []) (value.Property (97 ∷ [])) (λ rest. refl) refl refl le
ends_between limit (Has below rows t) le = has_ends limit below rows t le

-- ---- a name

last_of : List ℕ → ℕ
last_of [] = 0
last_of (x ∷ []) = x
last_of (x ∷ y ∷ ys) = last_of (y ∷ ys)

last-push : (xs : List ℕ) (b : ℕ) → last_of (xs ++ b ∷ []) ≡ b
unfolding last_of
last-push [] b = refl
last-push (x ∷ []) b = refl
last-push (x ∷ y ∷ ys) b = last-push (y ∷ ys) b

ends_apart : (w k : List ℕ) → (95 ≡ last_of k → ⊥) → bytes_eq (folded (w ++ 95 ∷ [])) k ≡ false
ends_apart w k ne =
    elim (cases_Bool (bytes_eq (folded (w ++ 95 ∷ [])) k)) [
      | inl e ↦
          let same : folded (w ++ 95 ∷ []) ≡ k = (bytes_eq-Decides (folded (w ++ 95 ∷ [])) k).0 e in
          let grown : folded (w ++ 95 ∷ []) ≡ folded w ++ 95 ∷ [] = map-append to_ascii_lowercase w (95 ∷ []) in
          absurd (ne (sym (last-push (folded w) 95) ∙ ap last_of (sym grown ∙ same)))
      | inr e ↦ e
    ]

unlike : (k n : ℕ) → n ≡ 95 + k → 0 < k → 95 ≡ n → ⊥
unlike k n is lt e = absurd (omega arith)

no_keyword : (o : Operator) → 95 ≡ last_of (keyword o) → ⊥
unfolding last_of
no_keyword op.And e = unlike 5 100 refl (lit< tt) e
no_keyword op.Or e = unlike 19 114 refl (lit< tt) e
no_keyword op.Xor e = unlike 19 114 refl (lit< tt) e
no_keyword op.Eqv e = unlike 23 118 refl (lit< tt) e
no_keyword op.Imp e = unlike 17 112 refl (lit< tt) e

no_not : 95 ≡ last_of (codes "not") → ⊥
unfolding last_of
no_not e = unlike 21 116 refl (lit< tt) e

no_operator : (os : List Operator) (w : List ℕ) → operator_in os (folded (w ++ 95 ∷ [])) ≡ None
no_operator [] w = refl
no_operator (o ∷ os) w = let apart = ends_apart w (keyword o) (no_keyword o) in rw apart (no_operator os w)

word_is_name : (w : List ℕ) → word (w ++ 95 ∷ []) ≡ Operand (value.Property (w ++ 95 ∷ []))
word_is_name w =
    ap (λ (b : Bool). cond b Negate (or_property (w ++ 95 ∷ []) (operator_in all_ops (folded (w ++ 95 ∷ []))))) (ends_apart w (codes "not") no_not)
    ∙ ap (or_property (w ++ 95 ∷ [])) (no_operator all_ops w)

is_no_keyword : (w : List ℕ) → is_keyword (w ++ 95 ∷ []) ≡ false
is_no_keyword w = let apart = ends_apart w (codes "not") no_not in let none = no_operator all_ops w in rw (apart, none) refl

name_is_good : (k : Mark) (w : List ℕ) → is_good (named k (w ++ 95 ∷ [])) ≡ true
name_is_good mark.Variable w = ap not (is_no_keyword w)
name_is_good (mark.State s) w = ap not (is_no_keyword w)

symbol_lexes : (k : Mark) (w rest : List ℕ) → tokens_in (InSymbol k w) (95 ∷ 32 ∷ rest) ≡ then_token (Operand (named k (w ++ 95 ∷ []))) (tokens_in Nothing rest)
symbol_lexes k w rest = let some = push-is_empty w 95 in rw some refl

-- ---- the rest of a keyword

prefix_rest : (xs ys : List ℕ) → begins_with xs ys ≡ true → (zs : List ℕ) × (xs ≡ ys ++ zs)
prefix_rest xs [] e = (xs, refl)
prefix_rest [] (y ∷ ys) e = absurd cc
prefix_rest (x ∷ xs) (y ∷ ys) e =
    elim (cases_Bool (eqb x y)) [
      | inl s ↦
          let rest : begins_with xs ys ≡ true = sym (ap (λ (b : Bool). cond b (begins_with xs ys) false) s) ∙ e in
          let p = prefix_rest xs ys rest in
          (p.0, ap (λ (k : ℕ). k ∷ xs) (eqb-true x y s) ∙ ap (λ (k : List ℕ). y ∷ k) p.1)
      | inr s ↦ let no_one : begins_with (x ∷ xs) (y ∷ ys) ≡ false = ap (λ (b : Bool). cond b (begins_with xs ys) false) s in absurd cc
    ]

abbrev AllPlain : List ℕ → Type 0
AllPlain [] = Unit {0}
AllPlain (b ∷ bs) = (to_ascii_lowercase b ≡ b) × (is_name_byte b ≡ true) × AllPlain bs

plain_rest : (ys zs : List ℕ) → AllPlain (ys ++ zs) → AllPlain zs
plain_rest [] zs h = h
plain_rest (y ∷ ys) zs h = plain_rest ys zs h.2

folded-plain : (zs : List ℕ) → AllPlain zs → folded zs ≡ zs
folded-plain [] h = refl
folded-plain (z ∷ zs) h = ap (λ (k : ℕ). k ∷ folded zs) h.0 ∙ ap (λ (k : List ℕ). z ∷ k) (folded-plain zs h.2)

word_goes : (w zs rest : List ℕ) → AllPlain zs → tokens_in (InWord w) (zs ++ 32 ∷ rest) ≡ then_token (word (w ++ zs)) (tokens_in Nothing rest)
word_goes w [] rest h = ap (λ (v : List ℕ). then_token (word v) (tokens_in Nothing rest)) (sym (append-nil w))
word_goes w (z ∷ zs) rest h =
    let one : tokens_in (InWord w) (z ∷ zs ++ 32 ∷ rest) ≡ tokens_in (InWord (w ++ z ∷ [])) (zs ++ 32 ∷ rest) = let is_in = h.1 in rw is_in refl in
    one ∙ word_goes (w ++ z ∷ []) zs rest h.2 ∙ ap (λ (v : List ℕ). then_token (word v) (tokens_in Nothing rest)) (append_assoc w (z ∷ []) zs)

keyword_is : (w zs k : List ℕ) → k ≡ folded w ++ zs → AllPlain k → folded (w ++ zs) ≡ k
keyword_is w zs k e h =
    let plain : AllPlain zs = plain_rest (folded w) zs (subst AllPlain e h) in
    map-append to_ascii_lowercase w zs ∙ ap (λ (v : List ℕ). folded w ++ v) (folded-plain zs plain) ∙ sym e

plain_keyword : (o : Operator) → AllPlain (keyword o)
plain_keyword op.And = (refl, refl, (refl, refl, (refl, refl, tt)))
plain_keyword op.Or = (refl, refl, (refl, refl, tt))
plain_keyword op.Xor = (refl, refl, (refl, refl, (refl, refl, tt)))
plain_keyword op.Eqv = (refl, refl, (refl, refl, (refl, refl, tt)))
plain_keyword op.Imp = (refl, refl, (refl, refl, (refl, refl, tt)))

pub word_is_join : (v : List ℕ) (o : Operator) → folded v ≡ keyword o → word v ≡ Join o
word_is_join v op.And e = rw e refl
word_is_join v op.Or e = rw e refl
word_is_join v op.Xor e = rw e refl
word_is_join v op.Eqv e = rw e refl
word_is_join v op.Imp e = rw e refl

operator_begun : (os : List Operator) (small : List ℕ) → begins_operator os small ≡ true → (o : Operator) × (zs : List ℕ) × (keyword o ≡ small ++ zs)
operator_begun [] small e = absurd cc
operator_begun (o ∷ os) small e =
    elim (or_true (begins_with (keyword o) small) (begins_operator os small) e) [
      | inl a ↦ let p = prefix_rest (keyword o) small a in (o, p.0, p.1)
      | inr a ↦ operator_begun os small a
    ]

-- an operator ends a place behind a factor
operator_ends : (limit : ℕ) (s n : State) (w : List ℕ) (o : Operator) (zs : List ℕ) → keyword o ≡ folded w ++ zs → step s (Join o) ≡ Some n → depth_at n ≤ limit → Ends limit (InWord w) s
operator_ends limit s n w o zs e steps le =
    let plain : AllPlain zs = plain_rest (folded w) zs (subst AllPlain e (plain_keyword o)) in
    let is : word (w ++ zs) ≡ Join o = word_is_join (w ++ zs) o (keyword_is w zs (keyword o) e (plain_keyword o)) in
    finishing limit (InWord w) s (zs ++ 32 ∷ []) (Join o) n
    (λ rest. ap (tokens_in (InWord w)) (append_assoc zs (32 ∷ []) rest) ∙ word_goes w zs rest plain ∙ ap (λ (x : Token). then_token x (tokens_in Nothing rest)) is)
    steps le (ends_between limit n le)

-- ---- each live place can be ended

with_blank : (r : Relation) → relation_with r 32 ≡ None
with_blank relation.Equal = refl
with_blank relation.NotEqual = refl
with_blank relation.Greater = refl
with_blank relation.GreaterOrEqual = refl
with_blank relation.Less = refl
with_blank relation.LessOrEqual = refl
with_blank relation.Contains = refl
with_blank relation.BeginsWith = refl
with_blank relation.EndsWith = refl

comparison_lexes : (c : Comparison) (rest : List ℕ) → tokens_in (InComparison c) (32 ∷ rest) ≡ then_token (Compares c) (tokens_in Nothing rest)
comparison_lexes c rest = let none = with_blank c.relation in rw none refl

-- an operator of comparison ends a place behind a value
comparing : (limit : ℕ) (m : Mode) (s : State) (v : List ℕ) (c : Comparison) → ((rest : List ℕ) → tokens_in m (v ++ rest) ≡ then_token (Compares c) (tokens_in Nothing rest)) → has_value s ≡ true → depth_at s ≤ limit → Ends limit m s
comparing limit m (Wants below f) v c lexes h le = absurd cc
comparing limit m (HasValue below f x) v c lexes h le = finishing limit m (HasValue below f x) v (Compares c) (WantsRight below f x c) lexes refl le (ends_between limit (WantsRight below f x c) le)
comparing limit m (WantsRight below f l d) v c lexes h le = absurd cc
comparing limit m (Has below rows t) v c lexes h le = absurd cc

word_ends : (limit : ℕ) (w : List ℕ) (s : State) → may_stand s (InWord w) ≡ true → depth_at s ≤ limit → Ends limit (InWord w) s
word_ends limit w s e le =
    elim (or_true (wants_value s) (begins_operator all_ops (folded w)) e) [
      | inl wants ↦ valued limit (InWord w) s (95 ∷ 32 ∷ []) (value.Property (w ++ 95 ∷ [])) (λ rest. ap (λ (x : Token). then_token x (tokens_in Nothing rest)) (word_is_name w)) refl wants le
      | inr begun ↦ let o = operator_begun all_ops (folded w) begun in by s o.0 o.1 o.2 le
    ]
  where
    by : (s : State) (o : Operator) (zs : List ℕ) → keyword o ≡ folded w ++ zs → depth_at s ≤ limit → Ends limit (InWord w) s
    by (Wants below f) o zs e le = valued limit (InWord w) (Wants below f) (95 ∷ 32 ∷ []) (value.Property (w ++ 95 ∷ [])) (λ rest. ap (λ (x : Token). then_token x (tokens_in Nothing rest)) (word_is_name w)) refl refl le
    by (HasValue below f v) o zs e le = operator_ends limit (HasValue below f v) (joins below f.rows (negated f.nots (Alone v)) o) w o zs e refl (omega arith)
    by (WantsRight below f l c) o zs e le = valued limit (InWord w) (WantsRight below f l c) (95 ∷ 32 ∷ []) (value.Property (w ++ 95 ∷ [])) (λ rest. ap (λ (x : Token). then_token x (tokens_in Nothing rest)) (word_is_name w)) refl refl le
    by (Has below rows t) o zs e le = operator_ends limit (Has below rows t) (joins below rows t o) w o zs e refl (omega arith)

ends_at : (limit : ℕ) (m : Mode) (s : State) → may_stand s m ≡ true → depth_at s ≤ limit → Ends limit m s
ends_at limit Nothing s e le = ends_between limit s le
ends_at limit (InWord w) s e le = word_ends limit w s e le
ends_at limit (InSymbol k w) s e le = valued limit (InSymbol k w) s (95 ∷ 32 ∷ []) (named k (w ++ 95 ∷ [])) (symbol_lexes k w) (name_is_good k w) e le
ends_at limit (InLiteral text) s e le = valued limit (InLiteral text) s (34 ∷ []) (value.Literal text) (λ rest. refl) refl e le
ends_at limit AfterMinus s e le = valued limit AfterMinus s (48 ∷ 32 ∷ []) (value.Integer (signed true 0)) (λ rest. refl) refl e le
ends_at limit (InDigits negative n) s e le =
    let both = and_true (wants_value s) (leb n 2147483647) e in
    valued limit (InDigits negative n) s (32 ∷ []) (value.Integer (signed negative n)) (λ rest. refl) (ap (λ (k : ℕ). leb k 2147483647) (nat_abs-signed negative n) ∙ both.1) both.0 le
ends_at limit AfterTilde s e le = comparing limit AfterTilde s (61 ∷ 32 ∷ []) (record { relation = relation.Equal; folds = true }) (λ rest. refl) e le
ends_at limit (InComparison c) s e le = comparing limit (InComparison c) s (32 ∷ []) c (comparison_lexes c) e le

-- ---- every place that is reached is live

pub record Live (limit : ℕ) (p : Place) : Type 0 where
  pub stands : may_stand p.state p.mode ≡ true
  pub shallow : depth_at p.state ≤ limit

pub ends_live : (limit : ℕ) (p : Place) → Live limit p → (text : List ℕ) × (t : Tree) × (read limit p text ≡ Some t)
ends_live limit p v = let e = ends_at limit p.mode p.state v.stands v.shallow in (e.text, e.tree, e.reads)

abbrev Leads : ℕ → Option Place → Type 0
Leads limit o = (q : Place) → o ≡ Some q → Live limit q

none_leads : (limit : ℕ) → Leads limit None
none_leads limit q e = absurd cc

some_leads : (limit : ℕ) (p : Place) → Live limit p → Leads limit (Some p)
some_leads limit p v q e = let same : p ≡ q = cc in subst (Live limit) same v

within_leads : (limit : ℕ) (s : State) (m : Mode) → depth_at s ≤ limit → Leads limit (within s m)
within_leads limit s m le = pick (Leads limit) (may_stand s m) (Some (record { mode = m; state = s })) None (λ may. some_leads limit (record { mode = m; state = s }) (record { stands = may; shallow = le })) (λ _. none_leads limit)

limited_shallow : (limit : ℕ) (n m : State) → limited limit n ≡ Some m → depth_at m ≤ limit
limited_shallow limit n m = by (leb (depth_at n) limit) refl
  where
    by : (b : Bool) → leb (depth_at n) limit ≡ b → cond b (Some n) None ≡ Some m → depth_at m ≤ limit
    by true is e = let same : n ≡ m = cc in subst (λ (k : State). depth_at k ≤ limit) same (leb-true _ _ is)
    by false is e = absurd cc

shallow : (limit : ℕ) (o : Option State) (m : State) → option_and_then (limited limit) o ≡ Some m → depth_at m ≤ limit
shallow limit None m e = absurd cc
shallow limit (Some n) m e = limited_shallow limit n m e

between_leads : (limit : ℕ) (o : Option State) → ((m : State) → o ≡ Some m → depth_at m ≤ limit) → Leads limit (option_map between o)
between_leads limit None h = none_leads limit
between_leads limit (Some n) h = some_leads limit (between n) (record { stands = refl; shallow = h n refl })

first_leads : (limit : ℕ) (s : State) (v : Move) → depth_at s ≤ limit → Leads limit (first_to limit s v)
first_leads limit s (Grows m) le = within_leads limit s m le
first_leads limit s (Takes x) le = between_leads limit (step_to limit s x) (shallow limit (step s x))
first_leads limit s (Leaves x) le = none_leads limit
first_leads limit s Wrong le = none_leads limit

then_leads : (limit : ℕ) (o : Option State) (v : Move) → ((m : State) → o ≡ Some m → depth_at m ≤ limit) → Leads limit (option_and_then (λ n. first_to limit n v) o)
then_leads limit None v h = none_leads limit
then_leads limit (Some n) v h = first_leads limit n v (h n refl)

after_leads : (limit : ℕ) (s : State) (b : ℕ) (v : Move) → depth_at s ≤ limit → Leads limit (after_to limit s b v)
after_leads limit s b (Grows m) le = within_leads limit s m le
after_leads limit s b (Takes x) le = between_leads limit (step_to limit s x) (shallow limit (step s x))
after_leads limit s b (Leaves x) le = then_leads limit (step_to limit s x) (begin b) (shallow limit (step s x))
after_leads limit s b Wrong le = none_leads limit

then_bytes : (limit : ℕ) (o : Option Place) (bs : List ℕ) (q : Place) → option_and_then (λ p. bytes_to limit p bs) o ≡ Some q → (p : Place) × (o ≡ Some p) × (bytes_to limit p bs ≡ Some q)
then_bytes limit None bs q e = absurd cc
then_bytes limit (Some p) bs q e = (p, refl, e)

pub bytes_live : (limit : ℕ) (p : Place) (bs : List ℕ) (q : Place) → Live limit p → bytes_to limit p bs ≡ Some q → Live limit q
bytes_live limit p [] q v e = let same : p ≡ q = cc in subst (Live limit) same v
bytes_live limit p (b ∷ bs) q v e =
    let t = then_bytes limit (byte_to limit p b) bs q e in
    bytes_live limit t.0 bs q (after_leads limit p.state b (move p.mode b) v.shallow t.0 t.1) t.2
