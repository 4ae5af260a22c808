-- What the machine reads, the grammar reads.
use Rattle.std.proofs.Common.{◌≡◌, ℕ, zero, suc, ◌+◌, ◌-◌, ◌<◌, ◌≤◌, leb, true, List, [], ◌∷◌, ◌++◌, Option, Some, None, refl, sym, ap, subst, ◌∙◌, append_assoc, arith, inl, inr}
use Rattle.std.specs.Prelude.{option_and_then}
use Rattle.std.proofs.lemmas.Bool.{leb-true}
use Rattle.std.proofs.lemmas.List.{append-nil}
use Rattle.mi_cond.proofs.Basics.{none_some, guard_some, then_some}
use Rattle.mi_cond.specs.declared.operand.Operator.{Operator}
use Rattle.mi_cond.specs.declared.operand.Operator.TheVariants as op
use Rattle.mi_cond.specs.declared.operand.Comparison.{Comparison}
use Rattle.mi_cond.specs.declared.operand.Value.{Value}
use Rattle.mi_cond.specs.declared.token.Token.{Token}
use Rattle.mi_cond.specs.declared.token.Token.TheVariants.{Open, Close, Negate, Join, Operand, Compare as Compares}
use Rattle.mi_cond.specs.Tree.{Tree, Alone, Compare, Not, Both, joined}
use Rattle.mi_cond.specs.Lex.{all_ops, is_good}
use Rattle.mi_cond.specs.Grammar.{Part, row_text, row_tree, Each, Row, Levels, Factor, Condition}
use Rattle.mi_cond.specs.Steps.{Frame, fresh, negated, climbed, whole, level_of, depth, State, Wants, HasValue, WantsRight, Has, depth_at, joins, closes, step, ends, end_of}
use Rattle.mi_cond.proofs.Runs.{limited, step_to, run}

-- ---- rows

-- the tokens of a row so far, its operator behind it
abbrev RowStands : Operator → (List Token → Tree → Type 0) → Option Tree → List Token → Type 0
RowStands op P None p = p ≡ []
RowStands op P (Some t) p = (x : Part) × (xs : List Part) × P x.text x.tree × Each P xs × (t ≡ row_tree op x.tree xs) × (p ≡ (x.text ++ row_text op xs) ++ Join op ∷ [])

-- the tokens of rows from the tightest, the loosest in front
abbrev RowsStand : List Operator → (List Token → Tree → Type 0) → List (Option Tree) → List Token → Type 0
RowsStand [] P [] p = p ≡ []
RowsStand (op ∷ ops) P (row ∷ rows) p = (front : List Token) × (back : List Token) × RowsStand ops (Row op P) rows front × RowStands op P row back × (p ≡ front ++ back)
RowsStand ops P rows p = ⊥

row_text-push : (op : Operator) (xs : List Part) (y : Part) → row_text op (xs ++ y ∷ []) ≡ row_text op xs ++ Join op ∷ y.text
row_text-push op [] y = ap (λ (ts : List Token). Join op ∷ ts) (append-nil y.text)
row_text-push op (x ∷ xs) y = ap (λ (ts : List Token). Join op ∷ x.text ++ ts) (row_text-push op xs y) ∙ ap (λ (ts : List Token). Join op ∷ ts) (sym (append_assoc x.text (row_text op xs) (Join op ∷ y.text)))

row_tree-push : (op : Operator) (t : Tree) (xs : List Part) (y : Part) → row_tree op t (xs ++ y ∷ []) ≡ Both op (row_tree op t xs) y.tree
row_tree-push op t [] y = refl
row_tree-push op t (x ∷ xs) y = row_tree-push op (Both op t x.tree) xs y

Each-push : (P : List Token → Tree → Type 0) (xs : List Part) (y : Part) → Each P xs → P y.text y.tree → Each P (xs ++ y ∷ [])
Each-push P [] y ps p = (p, tt)
Each-push P (x ∷ xs) y ps p = (ps.0, Each-push P xs y ps.1 p)

-- an operand more
row_with : (op : Operator) (P : List Token → Tree → Type 0) (row : Option Tree) (p last : List Token) (t : Tree) → RowStands op P row p → P last t → Row op P (p ++ last) (joined op row t)
row_with op P None p last t s q =
    (record { text = last; tree = t }, [], q, tt, ap (λ (ts : List Token). ts ++ last) s ∙ sym (append-nil last), refl)
row_with op P (Some u) p last t s q =
    let y : Part = record { text = last; tree = t } in
    let text : p ++ last ≡ (s.0).text ++ row_text op (s.1 ++ y ∷ []) =
    ap (λ (ts : List Token). ts ++ last) s.5 ∙ append_assoc ((s.0).text ++ row_text op s.1) (Join op ∷ []) last ∙ append_assoc (s.0).text (row_text op s.1) (Join op ∷ last)
    ∙ ap (λ (ts : List Token). (s.0).text ++ ts) (sym (row_text-push op s.1 y)) in
    (s.0, s.1 ++ y ∷ [], s.2, Each-push P s.1 y s.3 q, text, ap (λ (v : Tree). Both op v t) s.4 ∙ sym (row_tree-push op (s.0).tree s.1 y))

-- all rows end
rows_end : (ops : List Operator) (P : List Token → Tree → Type 0) (rows : List (Option Tree)) (p last : List Token) (t : Tree) → RowsStand ops P rows p → P last t → Levels ops P (p ++ last) (whole ops rows t)
rows_end [] P [] p last t s q = subst (λ (ts : List Token). P (ts ++ last) t) (sym s) q
rows_end [] P (row ∷ rows) p last t s q = absurd s
rows_end (op ∷ ops) P [] p last t s q = absurd s
rows_end (op ∷ ops) P (row ∷ rows) p last t s q =
    let one = row_with op P row s.1 last t s.3 q in
    let all = rows_end ops (Row op P) rows s.0 (s.1 ++ last) (joined op row t) s.2 one in
    subst (λ (ts : List Token). Levels ops (Row op P) ts (whole ops rows (joined op row t))) (sym (append_assoc s.0 s.1 last) ∙ ap (λ (ts : List Token). ts ++ last) (sym s.4)) all

-- the operator of each level
abbrev at_level : ℕ → List Operator → Operator → Type 0
at_level zero (o ∷ ops) op = o ≡ op
at_level (suc k) (o ∷ ops) op = at_level k ops op
at_level k [] op = ⊥

-- an operator ends the tighter rows
rows_climb : (k : ℕ) (ops : List Operator) (op : Operator) (P : List Token → Tree → Type 0) (rows : List (Option Tree)) (p last : List Token) (t : Tree) → at_level k ops op → RowsStand ops P rows p → P last t
    → RowsStand ops P (climbed k ops rows t) ((p ++ last) ++ Join op ∷ [])
rows_climb zero [] op P rows p last t a s q = absurd a
rows_climb (suc k) [] op P rows p last t a s q = absurd a
rows_climb zero (o ∷ ops) op P [] p last t a s q = absurd s
rows_climb (suc k) (o ∷ ops) op P [] p last t a s q = absurd s
rows_climb zero (o ∷ ops) op P (row ∷ rows) p last t a s q =
    let one = row_with o P row s.1 last t s.3 q in
    let back : List Token = (s.1 ++ last) ++ Join o ∷ [] in
    let stands : RowStands o P (Some (joined o row t)) back = (one.0, one.1, one.2, one.3, one.5, ap (λ (ts : List Token). ts ++ Join o ∷ []) one.4) in (
      s.0,
      back,
      s.2,
      stands,
      ap (λ (ts : List Token). (ts ++ last) ++ Join op ∷ []) s.4 ∙ ap (λ (ts : List Token). ts ++ Join op ∷ []) (append_assoc s.0 s.1 last)
          ∙ append_assoc s.0 (s.1 ++ last) (Join op ∷ []) ∙ ap (λ (o' : Operator). s.0 ++ ((s.1 ++ last) ++ Join o' ∷ [])) (sym a),
    )
rows_climb (suc k) (o ∷ ops) op P (row ∷ rows) p last t a s q =
    let one = row_with o P row s.1 last t s.3 q in
    let more = rows_climb k ops op (Row o P) rows s.0 (s.1 ++ last) (joined o row t) a s.2 one in (
      (s.0 ++ (s.1 ++ last)) ++ Join op ∷ [],
      [],
      more,
      refl,
      ap (λ (ts : List Token). (ts ++ last) ++ Join op ∷ []) s.4 ∙ ap (λ (ts : List Token). ts ++ Join op ∷ []) (append_assoc s.0 s.1 last)
          ∙ sym (append-nil ((s.0 ++ (s.1 ++ last)) ++ Join op ∷ [])),
    )

level_is : (op : Operator) → at_level (level_of op) all_ops op
level_is op.And = refl
level_is op.Or = refl
level_is op.Xor = refl
level_is op.Eqv = refl
level_is op.Imp = refl

-- ---- frames

abbrev negates : ℕ → List Token
negates zero = []
negates (suc n) = Negate ∷ negates n

negates-push : (n : ℕ) → Negate ∷ negates n ≡ negates n ++ Negate ∷ []
negates-push zero = refl
negates-push (suc n) = ap (λ (ts : List Token). Negate ∷ ts) (negates-push n)

negates_then : (n : ℕ) (a : List Token) → Negate ∷ negates n ++ a ≡ negates n ++ Negate ∷ a
negates_then zero a = refl
negates_then (suc n) a = ap (λ (ts : List Token). Negate ∷ ts) (negates_then n a)

-- a factor behind its NOT
negated_factor : (k n m : ℕ) (a : List Token) (t : Tree) → k + n ≡ m → Factor n a t → Factor m (negates k ++ a) (negated k t)
negated_factor zero n m a t e p = let same : n ≡ m = omega arith in subst (λ (j : ℕ). Factor j a t) same p
negated_factor (suc k) n m a t e p =
    let one : Factor (suc n) (Negate ∷ a) (Not t) = inr (inr (inl (a, t, p, refl, refl))) in
    subst (λ (ts : List Token). Factor m ts (negated k (Not t))) (sym (negates_then k a)) (negated_factor k (suc n) m (Negate ∷ a) (Not t) (omega arith) one)

alone : (n : ℕ) (v : Value) → is_good v ≡ true → Factor n (Operand v ∷ []) (Alone v)
alone zero v good = inl (v, good, refl, refl)
alone (suc n) v good = inl (v, good, refl, refl)

compared : (n : ℕ) (l : Value) (c : Comparison) (r : Value) → is_good l ≡ true → is_good r ≡ true → Factor n (Operand l ∷ Compares c ∷ Operand r ∷ []) (Compare c l r)
compared zero l c r good right = inr (l, c, r, good, right, refl, refl)
compared (suc n) l c r good right = inr (inl (l, c, r, good, right, refl, refl))

-- what stands in a frame: its rows, and the NOT behind them
record FrameStands (n : ℕ) (f : Frame) (p : List Token) : Type 0 where
  front : List Token
  rows : RowsStand all_ops (Factor n) f.rows front
  text : p ≡ front ++ negates f.nots

abbrev BelowStands : ℕ → List Frame → List Token → Type 0
BelowStands limit [] p = p ≡ []
BelowStands limit (f ∷ below) p =
    (front : List Token) × (back : List Token) × BelowStands limit below front × FrameStands (limit - depth below) f back × (f.nots + depth below < limit) × (p ≡ (front ++ back) ++ Open ∷ [])

record Wanted (limit : ℕ) (below : List Frame) (f : Frame) (p : List Token) : Type 0 where
  front : List Token
  back : List Token
  under : BelowStands limit below front
  top : FrameStands (limit - depth below) f back
  room : f.nots + depth below ≤ limit
  text : p ≡ front ++ back

record Had (limit : ℕ) (below : List Frame) (rows : List (Option Tree)) (t : Tree) (p : List Token) : Type 0 where
  front : List Token
  back : List Token
  last : List Token
  under : BelowStands limit below front
  top : RowsStand all_ops (Factor (limit - depth below)) rows back
  factor : Factor (limit - depth below) last t
  room : depth below ≤ limit
  text : p ≡ front ++ (back ++ last)

-- what has been read in a state
abbrev Stands : ℕ → State → List Token → Type 0
Stands limit (Wants below f) p = Wanted limit below f p
Stands limit (HasValue below f v) p = (q : List Token) × Wanted limit below f q × (is_good v ≡ true) × (p ≡ q ++ Operand v ∷ [])
Stands limit (WantsRight below f l c) p = (q : List Token) × Wanted limit below f q × (is_good l ≡ true) × (p ≡ q ++ Operand l ∷ Compares c ∷ [])
Stands limit (Has below rows t) p = Had limit below rows t p

no_rows : (n : ℕ) → RowsStand all_ops (Factor n) fresh.rows []
no_rows n = ([], [], ([], [], ([], [], ([], [], ([], [], refl, refl, refl), refl, refl), refl, refl), refl, refl), refl, refl)

-- a factor behind what stands in a frame
after_factor : (limit : ℕ) (below : List Frame) (f : Frame) (p a : List Token) (t : Tree) → Factor (limit - (f.nots + depth below)) a t → Wanted limit below f p → Had limit below f.rows (negated f.nots t) (p ++ a)
after_factor limit below f p a t factor s =
    let inside = s.top in
    record {
      front = s.front;
      back = inside.front;
      last = negates f.nots ++ a;
      under = s.under;
      top = inside.rows;
      factor = negated_factor f.nots (limit - (f.nots + depth below)) (limit - depth below) a t (omega (arith, s.room)) factor;
      room = omega (arith, s.room);
      text = ap (λ (ts : List Token). ts ++ a) (s.text ∙ ap (λ (ts : List Token). s.front ++ ts) inside.text) ∙ append_assoc s.front (inside.front ++ negates f.nots) a
          ∙ ap (λ (ts : List Token). s.front ++ ts) (append_assoc inside.front (negates f.nots) a);
    }

settled : (limit : ℕ) (below : List Frame) (f : Frame) (v : Value) (p : List Token) → Stands limit (HasValue below f v) p → Had limit below f.rows (negated f.nots (Alone v)) p
settled limit below f v p s =
    subst (λ (ts : List Token). Had limit below f.rows (negated f.nots (Alone v)) ts) (sym s.3) (after_factor limit below f s.0 (Operand v ∷ []) (Alone v) (alone (limit - (f.nots + depth below)) v s.2) s.1)

after_not : (limit : ℕ) (below : List Frame) (f : Frame) (p : List Token) → f.nots + depth below < limit → Wanted limit below f p → Wanted limit below (record { nots = suc f.nots; rows = f.rows }) (p ++ Negate ∷ [])
after_not limit below f p lt s =
    let inside = s.top in
    record {
      front = s.front;
      back = s.back ++ Negate ∷ [];
      under = s.under;
      top = record { front = inside.front; rows = inside.rows; text = ap (λ (ts : List Token). ts ++ Negate ∷ []) inside.text ∙ append_assoc inside.front (negates f.nots) (Negate ∷ []) ∙ ap (λ (ts : List Token). inside.front ++ ts) (sym (negates-push f.nots)) };
      room = omega (arith, lt);
      text = ap (λ (ts : List Token). ts ++ Negate ∷ []) s.text ∙ append_assoc s.front s.back (Negate ∷ []);
    }

after_open : (limit : ℕ) (below : List Frame) (f : Frame) (p : List Token) → f.nots + depth below < limit → Wanted limit below f p → Wanted limit (f ∷ below) fresh (p ++ Open ∷ [])
after_open limit below f p lt s =
    record {
      front = p ++ Open ∷ [];
      back = [];
      under = (s.front, s.back, s.under, s.top, lt, ap (λ (ts : List Token). ts ++ Open ∷ []) s.text);
      top = record { front = []; rows = no_rows (limit - depth (f ∷ below)); text = refl };
      room = omega (arith, lt);
      text = sym (append-nil (p ++ Open ∷ []));
    }

after_join : (limit : ℕ) (below : List Frame) (rows : List (Option Tree)) (t : Tree) (op : Operator) (p : List Token) → Had limit below rows t p → Wanted limit below (record { nots = 0; rows = climbed (level_of op) all_ops rows t }) (p ++ Join op ∷ [])
after_join limit below rows t op p s =
    record {
      front = s.front;
      back = (s.back ++ s.last) ++ Join op ∷ [];
      under = s.under;
      top = record { front = (s.back ++ s.last) ++ Join op ∷ []; rows = rows_climb (level_of op) all_ops op (Factor (limit - depth below)) rows s.back s.last t (level_is op) s.top s.factor; text = sym (append-nil ((s.back ++ s.last) ++ Join op ∷ [])) };
      room = omega (arith, s.room);
      text = ap (λ (ts : List Token). ts ++ Join op ∷ []) s.text ∙ append_assoc s.front (s.back ++ s.last) (Join op ∷ []);
    }

ended : (limit : ℕ) (below : List Frame) (rows : List (Option Tree)) (t : Tree) (p : List Token) (s : Had limit below rows t p) → Condition (limit - depth below) (s.back ++ s.last) (whole all_ops rows t)
ended limit below rows t p s = rows_end all_ops (Factor (limit - depth below)) rows s.back s.last t s.top s.factor

regroup : (a b c d : List Token) → (((a ++ (b ++ c)) ++ Open ∷ []) ++ d) ++ Close ∷ [] ≡ a ++ (b ++ (c ++ Open ∷ (d ++ Close ∷ [])))
regroup a b c d = simp append_assoc

after_close : (limit : ℕ) (f : Frame) (below : List Frame) (rows : List (Option Tree)) (t : Tree) (p : List Token) → Had limit (f ∷ below) rows t p → Had limit below f.rows (negated f.nots (whole all_ops rows t)) (p ++ Close ∷ [])
after_close limit f below rows t p s =
    let under = s.under in
    let frame = under.3 in
    let n : ℕ = limit - depth (f ∷ below) in
    let inside : List Token = s.back ++ s.last in
    let factor_text : List Token = Open ∷ inside ++ Close ∷ [] in
    let bracket : Factor (suc n) factor_text (whole all_ops rows t) = inr (inr (inr (inside, ended limit (f ∷ below) rows t p s, refl))) in
    record {
      front = under.0;
      back = frame.front;
      last = negates f.nots ++ factor_text;
      under = under.2;
      top = frame.rows;
      factor = negated_factor f.nots (suc n) (limit - depth below) factor_text (whole all_ops rows t) (omega (arith, under.4)) bracket;
      room = omega (arith, under.4);
      text = ap (λ (ts : List Token). ts ++ Close ∷ []) (s.text ∙ ap (λ (ts : List Token). ts ++ (s.back ++ s.last)) (under.5 ∙ ap (λ (ts : List Token). (under.0 ++ ts) ++ Open ∷ []) frame.text))
          ∙ regroup under.0 frame.front (negates f.nots) (s.back ++ s.last);
    }

-- ---- steps

via : (limit : ℕ) (m n : State) (p : List Token) → Some m ≡ Some n → (depth_at m ≤ limit → Stands limit m p) → depth_at n ≤ limit → Stands limit n p
via limit m n p e h le = let same : m ≡ n = cc in (subst (λ (k : State). depth_at k ≤ limit → Stands limit k p) same h) le

closed : (limit : ℕ) (below : List Frame) (rows : List (Option Tree)) (t : Tree) (p : List Token) (n : State) → Had limit below rows t p → closes below rows t ≡ Some n → depth_at n ≤ limit → Stands limit n (p ++ Close ∷ [])
closed limit [] rows t p n s e le = none_some n e
closed limit (f ∷ below) rows t p n s e le = via limit (Has below f.rows (negated f.nots (whole all_ops rows t))) n (p ++ Close ∷ []) e (λ _. after_close limit f below rows t p s) le

two : (q : List Token) (a b : Token) → (q ++ a ∷ []) ++ b ∷ [] ≡ q ++ a ∷ b ∷ []
two q a b = append_assoc q (a ∷ []) (b ∷ [])

three : (q : List Token) (a b c : Token) → (q ++ a ∷ b ∷ []) ++ c ∷ [] ≡ q ++ a ∷ b ∷ c ∷ []
three q a b c = append_assoc q (a ∷ b ∷ []) (c ∷ [])

step_stands : (limit : ℕ) (s : State) (x : Token) (n : State) (p : List Token) → Stands limit s p → step s x ≡ Some n → depth_at n ≤ limit → Stands limit n (p ++ x ∷ [])
step_stands limit (Wants below f) Open n p s e le = via limit (Wants (f ∷ below) fresh) n (p ++ Open ∷ []) e (λ fits. after_open limit below f p (omega arith) s) le
step_stands limit (Wants below f) Close n p s e le = none_some n e
step_stands limit (Wants below f) Negate n p s e le = via limit (Wants below (record { nots = suc f.nots; rows = f.rows })) n (p ++ Negate ∷ []) e (λ fits. after_not limit below f p (omega arith) s) le
step_stands limit (Wants below f) (Join o) n p s e le = none_some n e
step_stands limit (Wants below f) (Compares c) n p s e le = none_some n e
step_stands limit (Wants below f) (Operand v) n p s e le =
    let g = guard_some (is_good v) (Some (HasValue below f v)) n e in
    via limit (HasValue below f v) n (p ++ Operand v ∷ []) g.1 (λ fits. (p, s, g.0, refl)) le
step_stands limit (HasValue below f v) Open n p s e le = none_some n e
step_stands limit (HasValue below f v) Close n p s e le = closed limit below f.rows (negated f.nots (Alone v)) p n (settled limit below f v p s) e le
step_stands limit (HasValue below f v) Negate n p s e le = none_some n e
step_stands limit (HasValue below f v) (Join o) n p s e le =
    via limit (joins below f.rows (negated f.nots (Alone v)) o) n (p ++ Join o ∷ []) e (λ _. after_join limit below f.rows (negated f.nots (Alone v)) o p (settled limit below f v p s)) le
step_stands limit (HasValue below f v) (Compares c) n p s e le =
    via limit (WantsRight below f v c) n (p ++ Compares c ∷ []) e (λ _. (s.0, s.1, s.2, ap (λ (ts : List Token). ts ++ Compares c ∷ []) s.3 ∙ two s.0 (Operand v) (Compares c))) le
step_stands limit (HasValue below f v) (Operand w) n p s e le = none_some n e
step_stands limit (WantsRight below f l c) Open n p s e le = none_some n e
step_stands limit (WantsRight below f l c) Close n p s e le = none_some n e
step_stands limit (WantsRight below f l c) Negate n p s e le = none_some n e
step_stands limit (WantsRight below f l c) (Join o) n p s e le = none_some n e
step_stands limit (WantsRight below f l c) (Compares d) n p s e le = none_some n e
step_stands limit (WantsRight below f l c) (Operand r) n p s e le =
    let next : State = Has below f.rows (negated f.nots (Compare c l r)) in
    let g = guard_some (is_good r) (Some next) n e in
    let text : p ++ Operand r ∷ [] ≡ s.0 ++ Operand l ∷ Compares c ∷ Operand r ∷ [] = ap (λ (ts : List Token). ts ++ Operand r ∷ []) s.3 ∙ three s.0 (Operand l) (Compares c) (Operand r) in
    let had = after_factor limit below f s.0 (Operand l ∷ Compares c ∷ Operand r ∷ []) (Compare c l r) (compared (limit - (f.nots + depth below)) l c r s.2 g.0) s.1 in
    via limit next n (p ++ Operand r ∷ []) g.1 (λ _. subst (λ (ts : List Token). Had limit below f.rows (negated f.nots (Compare c l r)) ts) (sym text) had) le
step_stands limit (Has below rows t) Open n p s e le = none_some n e
step_stands limit (Has below rows t) Close n p s e le = closed limit below rows t p n s e le
step_stands limit (Has below rows t) Negate n p s e le = none_some n e
step_stands limit (Has below rows t) (Join o) n p s e le = via limit (joins below rows t o) n (p ++ Join o ∷ []) e (λ _. after_join limit below rows t o p s) le
step_stands limit (Has below rows t) (Compares c) n p s e le = none_some n e
step_stands limit (Has below rows t) (Operand v) n p s e le = none_some n e

had_ended : (limit : ℕ) (below : List Frame) (rows : List (Option Tree)) (t : Tree) (p : List Token) (r : Tree) → Had limit below rows t p → ends below rows t ≡ Some r → Condition limit p r
had_ended limit [] rows t p r s e =
    let text : s.back ++ s.last ≡ p = sym (s.text ∙ ap (λ (ts : List Token). ts ++ (s.back ++ s.last)) s.under) in
    let same : whole all_ops rows t ≡ r = cc in
    let full : limit - 0 ≡ limit = omega arith in
    let all : Condition limit (s.back ++ s.last) (whole all_ops rows t) = subst (λ (n : ℕ). Condition n (s.back ++ s.last) (whole all_ops rows t)) full (ended limit [] rows t p s) in
    subst (λ (u : Tree). Condition limit p u) same (subst (λ (ts : List Token). Condition limit ts (whole all_ops rows t)) text all)
had_ended limit (f ∷ below) rows t p r s e = none_some r e

stands_ended : (limit : ℕ) (s : State) (p : List Token) (r : Tree) → Stands limit s p → end_of s ≡ Some r → Condition limit p r
stands_ended limit (Wants below f) p r s e = none_some r e
stands_ended limit (HasValue below f v) p r s e = had_ended limit below f.rows (negated f.nots (Alone v)) p r (settled limit below f v p s) e
stands_ended limit (WantsRight below f l c) p r s e = none_some r e
stands_ended limit (Has below rows t) p r s e = had_ended limit below rows t p r s e

limited_some : (limit : ℕ) (o : Option State) (n : State) → option_and_then (limited limit) o ≡ Some n → (o ≡ Some n) × (depth_at n ≤ limit)
limited_some limit None n e = none_some n e
limited_some limit (Some m) n e =
    let g = guard_some (leb (depth_at m) limit) (Some m) n e in
    let same : m ≡ n = cc in
    (g.1, subst (λ (k : State). depth_at k ≤ limit) same (leb-true _ _ g.0))

sound : (limit : ℕ) (ts p : List Token) (s : State) (r : Tree) → Stands limit s p → run limit s ts ≡ Some r → Condition limit (p ++ ts) r
sound limit [] p s r st e = subst (λ (w : List Token). Condition limit w r) (sym (append-nil p)) (stands_ended limit s p r st e)
sound limit (x ∷ ts) p s r st e =
    let g = then_some (λ n. run limit n ts) (step_to limit s x) r e in
    let h = limited_some limit (step s x) g.0 g.1 in
    subst (λ (w : List Token). Condition limit w r) (append_assoc p (x ∷ []) ts) (sound limit ts (p ++ x ∷ []) g.0 r (step_stands limit s x g.0 p st h.0 h.1) g.2)

-- what is read is a condition that nests to the limit
pub what_is_read : (limit : ℕ) (ts : List Token) (t : Tree) → run limit (Wants [] fresh) ts ≡ Some t → Condition limit ts t
what_is_read limit ts t e =
    sound limit ts [] (Wants [] fresh) t (record { front = []; back = []; under = refl; top = record { front = []; rows = no_rows limit; text = refl }; room = omega arith; text = refl }) e
