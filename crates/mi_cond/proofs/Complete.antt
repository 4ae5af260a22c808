-- What the grammar reads, the machine reads.
use Rattle.std.proofs.Common.{◌≡◌, ℕ, zero, suc, ◌+◌, ◌≤◌, leb, Bool, true, cond, List, [], ◌∷◌, ◌++◌, length, Option, Some, None, refl, sym, ap, ◌∙◌, append_assoc, length-append, arith, inl, inr}
use Rattle.std.specs.Prelude.{option_and_then}
use Rattle.std.proofs.lemmas.Bool.{le-leb}
use Rattle.std.proofs.lemmas.List.{append-nil}
use Rattle.mi_cond.specs.declared.operand.Operator.{Operator}
use Rattle.mi_cond.specs.declared.operand.Operator.TheVariants as op
use Rattle.mi_cond.specs.declared.operand.Comparison.{Comparison}
use Rattle.mi_cond.specs.declared.operand.Value.{Value}
use Rattle.mi_cond.specs.declared.token.Token.{Token}
use Rattle.mi_cond.specs.declared.token.Token.TheVariants.{Open, Close, Negate, Join, Operand, Compare as Compares}
use Rattle.mi_cond.specs.Tree.{Tree, Alone, Compare, joined}
use Rattle.mi_cond.specs.Lex.{all_ops, is_good}
use Rattle.mi_cond.specs.Grammar.{Part, row_text, row_tree, Each, Row, IsAlone, IsComparison, Factor, Condition}
use Rattle.mi_cond.specs.Steps.{Frame, fresh, negated, climbed, whole, level_of, depth, State, Wants, HasValue, WantsRight, Has, depth_at}
use Rattle.mi_cond.proofs.Runs.{limited, run}

abbrev pub at_rows : List (Option Tree) → Frame
at_rows rows = record { nots = 0; rows = rows }

abbrev pub nones : List Operator → List (Option Tree)
nones [] = []
nones (op ∷ ops) = None ∷ nones ops

-- no operator of comparison follows
abbrev pub NoCompare : List Token → Type 0
NoCompare [] = Unit {0}
NoCompare (Open ∷ ts) = Unit {0}
NoCompare (Close ∷ ts) = Unit {0}
NoCompare (Negate ∷ ts) = Unit {0}
NoCompare (Join o ∷ ts) = Unit {0}
NoCompare (Compares c ∷ ts) = ⊥
NoCompare (Operand v ∷ ts) = Unit {0}

-- a state that is shallow enough is the next one
pub goes : (limit : ℕ) (n : State) (ts : List Token) → depth_at n ≤ limit → option_and_then (λ m. run limit m ts) (limited limit n) ≡ run limit n ts
goes limit n ts le = let fits : leb (depth_at n) limit ≡ true = le-leb _ _ le in rw fits refl

-- reading what P reads ends at `last`, and the tighter rows with it make t
pub record Ends (limit : ℕ) (ops : List Operator) (a : List Token) (t : Tree) (below : List Frame) (rows : List (Option Tree)) (rest : List Token) : Type 0 where
  pub lower : List (Option Tree)
  pub last : Tree
  pub len : length lower ≡ length ops
  pub makes : whole ops lower last ≡ t
  pub runs : run limit (Wants below (at_rows (nones ops ++ rows))) (a ++ rest) ≡ run limit (Has below (lower ++ rows) last) rest

abbrev pub Runs : ℕ → List Operator → (List Token → Tree → Type 0) → List Frame → Type 0
Runs limit ops P below = (a : List Token) (t : Tree) → P a t → (rows : List (Option Tree)) (rest : List Token) → NoCompare rest → Ends limit ops a t below rows rest

climbed_at : (ops : List Operator) (op : Operator) (more : List Operator) (lower : List (Option Tree)) (row : Option Tree) (rows : List (Option Tree)) (t : Tree) → length lower ≡ length ops
    → climbed (length ops) (ops ++ op ∷ more) (lower ++ row ∷ rows) t ≡ nones ops ++ Some (joined op row (whole ops lower t)) ∷ rows
climbed_at [] op more [] row rows t e = refl
climbed_at [] op more (x ∷ lower) row rows t e = absurd (omega arith)
climbed_at (o ∷ ops) op more [] row rows t e = absurd (omega arith)
climbed_at (o ∷ ops) op more (x ∷ lower) row rows t e = ap (λ (r : List (Option Tree)). None ∷ r) (climbed_at ops op more lower row rows (joined o x t) (omega arith))

whole-push : (ops : List Operator) (op : Operator) (lower : List (Option Tree)) (row : Option Tree) (t : Tree) → length lower ≡ length ops → whole (ops ++ op ∷ []) (lower ++ row ∷ []) t ≡ joined op row (whole ops lower t)
whole-push [] op [] row t e = refl
whole-push [] op (x ∷ lower) row t e = absurd (omega arith)
whole-push (o ∷ ops) op [] row t e = absurd (omega arith)
whole-push (o ∷ ops) op (x ∷ lower) row t e = whole-push ops op lower row (joined o x t) (omega arith)

-- a row that has begun, and its operands from x on
pub record RowEnds (limit : ℕ) (ops : List Operator) (op : Operator) (a : List Token) (t : Tree) (below : List Frame) (row : Option Tree) (rows : List (Option Tree)) (rest : List Token) : Type 0 where
  pub lower : List (Option Tree)
  pub row_then : Option Tree
  pub last : Tree
  pub len : length lower ≡ length ops
  pub makes : joined op row_then (whole ops lower last) ≡ t
  pub runs : run limit (Wants below (at_rows (nones ops ++ row ∷ rows))) (a ++ rest) ≡ run limit (Has below (lower ++ row_then ∷ rows) last) rest

-- an operator behind an operand ends the tighter rows
joins : (limit : ℕ) (ops : List Operator) (op : Operator) (more : List Operator) (below : List Frame) (lower : List (Option Tree)) (row : Option Tree) (rows : List (Option Tree)) (last t : Tree) (ts : List Token)
    → depth below ≤ limit → all_ops ≡ ops ++ op ∷ more → level_of op ≡ length ops → length lower ≡ length ops → whole ops lower last ≡ t
    → run limit (Has below (lower ++ row ∷ rows) last) (Join op ∷ ts) ≡ run limit (Wants below (at_rows (nones ops ++ Some (joined op row t) ∷ rows))) ts
joins limit ops op more below lower row rows last t ts fits all level len makes =
    let at : climbed (level_of op) all_ops (lower ++ row ∷ rows) last ≡ nones ops ++ Some (joined op row (whole ops lower last)) ∷ rows =
    ap (λ (k : ℕ). climbed k all_ops (lower ++ row ∷ rows) last) level ∙ ap (λ (os : List Operator). climbed (length ops) os (lower ++ row ∷ rows) last) all ∙ climbed_at ops op more lower row rows last len in
    goes limit (Wants below (at_rows (climbed (level_of op) all_ops (lower ++ row ∷ rows) last))) ts (omega arith)
    ∙ ap (λ (r : List (Option Tree)). run limit (Wants below (at_rows r)) ts) (at ∙ ap (λ (u : Tree). nones ops ++ Some (joined op row u) ∷ rows) makes)

row_goes : (limit : ℕ) (ops : List Operator) (op : Operator) (more : List Operator) (P : List Token → Tree → Type 0) (below : List Frame) → depth below ≤ limit → all_ops ≡ ops ++ op ∷ more → level_of op ≡ length ops → Runs limit ops P below
    → (x : Part) (xs : List Part) → P x.text x.tree → Each P xs → (row : Option Tree) (rows : List (Option Tree)) (rest : List Token) → NoCompare rest
    → RowEnds limit ops op (x.text ++ row_text op xs) (row_tree op (joined op row x.tree) xs) below row rows rest
row_goes limit ops op more P below fits all level runs x [] p ps row rows rest nc =
    let e = runs x.text x.tree p (row ∷ rows) rest nc in
    record {
      lower = e.lower;
      row_then = row;
      last = e.last;
      len = e.len;
      makes = ap (joined op row) e.makes;
      runs = ap (λ (ts : List Token). run limit (Wants below (at_rows (nones ops ++ row ∷ rows))) (ts ++ rest)) (append-nil x.text) ∙ e.runs;
    }
row_goes limit ops op more P below fits all level runs x (y ∷ ys) p ps row rows rest nc =
    let e = runs x.text x.tree p (row ∷ rows) (row_text op (y ∷ ys) ++ rest) tt in
    let next = row_goes limit ops op more P below fits all level runs y ys ps.0 ps.1 (Some (joined op row x.tree)) rows rest nc in
    record {
      lower = next.lower;
      row_then = next.row_then;
      last = next.last;
      len = next.len;
      makes = next.makes;
      runs = ap (λ (ts : List Token). run limit (Wants below (at_rows (nones ops ++ row ∷ rows))) ts) (append_assoc x.text (row_text op (y ∷ ys)) rest)
          ∙ e.runs ∙ joins limit ops op more below e.lower row rows e.last x.tree ((y.text ++ row_text op ys) ++ rest) fits all level e.len e.makes ∙ next.runs;
    }

nones-push : (ops : List Operator) (o : Operator) (rows : List (Option Tree)) → nones (ops ++ o ∷ []) ++ rows ≡ nones ops ++ None ∷ rows
nones-push [] o rows = refl
nones-push (p ∷ ops) o rows = ap (λ (r : List (Option Tree)). None ∷ r) (nones-push ops o rows)

-- a level more
row_runs : (limit : ℕ) (ops : List Operator) (op : Operator) (more : List Operator) (P : List Token → Tree → Type 0) (below : List Frame) → depth below ≤ limit → all_ops ≡ ops ++ op ∷ more → level_of op ≡ length ops → Runs limit ops P below
    → Runs limit (ops ++ op ∷ []) (Row op P) below
row_runs limit ops op more P below fits all level runs a t r rows rest nc =
    let g = row_goes limit ops op more P below fits all level runs r.0 r.1 r.2 r.3 None rows rest nc in
    let seam : (g.lower ++ g.row_then ∷ []) ++ rows ≡ g.lower ++ g.row_then ∷ rows = append_assoc g.lower (g.row_then ∷ []) rows in
    record {
      lower = g.lower ++ g.row_then ∷ [];
      last = g.last;
      len = omega (arith, length-append g.lower (g.row_then ∷ []), length-append ops (op ∷ []), g.len);
      makes = whole-push ops op g.lower g.row_then g.last g.len ∙ g.makes ∙ sym r.5;
      runs = ap (λ (f : List (Option Tree)). run limit (Wants below (at_rows f)) (a ++ rest)) (nones-push ops op rows) ∙ ap (λ (ts : List Token). run limit (Wants below (at_rows (nones ops ++ None ∷ rows))) (ts ++ rest)) r.4
          ∙ g.runs ∙ ap (λ (f : List (Option Tree)). run limit (Has below f g.last) rest) (sym seam);
    }

-- ---- factors

abbrev FactorRuns : ℕ → ℕ → Type 0
FactorRuns limit n = (a : List Token) (t : Tree) → Factor n a t → (below : List Frame) (f : Frame) (rest : List Token) → NoCompare rest → f.nots + depth below + n ≤ limit
    → run limit (Wants below f) (a ++ rest) ≡ run limit (Has below f.rows (negated f.nots t)) rest

factor_at : (limit n : ℕ) → FactorRuns limit n → (below : List Frame) → depth below + n ≤ limit → Runs limit [] (Factor n) below
factor_at limit n h below fits a t p rows rest nc = record { lower = []; last = t; len = refl; makes = refl; runs = h a t p below (at_rows rows) rest nc (omega arith) }

condition_runs : (limit n : ℕ) → FactorRuns limit n → (below : List Frame) → depth below + n ≤ limit → Runs limit all_ops (Condition n) below
condition_runs limit n h below le =
    let fits : depth below ≤ limit = omega arith in
    let ands = row_runs limit [] op.And (op.Or ∷ op.Xor ∷ op.Eqv ∷ op.Imp ∷ []) (Factor n) below fits refl refl (factor_at limit n h below le) in
    let ors = row_runs limit (op.And ∷ []) op.Or (op.Xor ∷ op.Eqv ∷ op.Imp ∷ []) (Row op.And (Factor n)) below fits refl refl ands in
    let xors = row_runs limit (op.And ∷ op.Or ∷ []) op.Xor (op.Eqv ∷ op.Imp ∷ []) (Row op.Or (Row op.And (Factor n))) below fits refl refl ors in
    let eqvs = row_runs limit (op.And ∷ op.Or ∷ op.Xor ∷ []) op.Eqv (op.Imp ∷ []) (Row op.Xor (Row op.Or (Row op.And (Factor n)))) below fits refl refl xors in
    row_runs limit (op.And ∷ op.Or ∷ op.Xor ∷ op.Eqv ∷ []) op.Imp [] (Row op.Eqv (Row op.Xor (Row op.Or (Row op.And (Factor n))))) below fits refl refl eqvs

-- a value behind which no operator of comparison follows stands alone
pub settles : (limit : ℕ) (below : List Frame) (f : Frame) (v : Value) (rest : List Token) → NoCompare rest → run limit (HasValue below f v) rest ≡ run limit (Has below f.rows (negated f.nots (Alone v))) rest
settles limit below f v [] nc = refl
settles limit below f v (Open ∷ ts) nc = refl
settles limit below f v (Close ∷ ts) nc = refl
settles limit below f v (Negate ∷ ts) nc = refl
settles limit below f v (Join o ∷ ts) nc = refl
settles limit below f v (Compares c ∷ ts) nc = absurd nc
settles limit below f v (Operand w ∷ ts) nc = refl

pub takes_value : (limit : ℕ) (below : List Frame) (f : Frame) (v : Value) (ts : List Token) → f.nots + depth below ≤ limit → is_good v ≡ true → run limit (Wants below f) (Operand v ∷ ts) ≡ run limit (HasValue below f v) ts
takes_value limit below f v ts le good =
    ap (λ (b : Bool). option_and_then (λ n. run limit n ts) (option_and_then (limited limit) (cond b (Some (HasValue below f v)) None))) good ∙ goes limit (HasValue below f v) ts le

takes_right : (limit : ℕ) (below : List Frame) (f : Frame) (l r : Value) (c : Comparison) (ts : List Token) → f.nots + depth below ≤ limit → is_good r ≡ true → run limit (WantsRight below f l c) (Operand r ∷ ts) ≡ run limit (Has below f.rows (negated f.nots (Compare c l r))) ts
takes_right limit below f l r c ts le good =
    ap (λ (b : Bool). option_and_then (λ n. run limit n ts) (option_and_then (limited limit) (cond b (Some (Has below f.rows (negated f.nots (Compare c l r)))) None))) good ∙ goes limit (Has below f.rows (negated f.nots (Compare c l r))) ts (omega arith)

alone_runs : (limit : ℕ) (a : List Token) (t : Tree) → IsAlone a t → (below : List Frame) (f : Frame) (rest : List Token) → NoCompare rest → f.nots + depth below ≤ limit → run limit (Wants below f) (a ++ rest) ≡ run limit (Has below f.rows (negated f.nots t)) rest
alone_runs limit a t p below f rest nc le =
    ap (λ (ts : List Token). run limit (Wants below f) (ts ++ rest)) p.2 ∙ takes_value limit below f p.0 rest le p.1 ∙ settles limit below f p.0 rest nc
    ∙ ap (λ (u : Tree). run limit (Has below f.rows (negated f.nots u)) rest) (sym p.3)

comparison_runs : (limit : ℕ) (a : List Token) (t : Tree) → IsComparison a t → (below : List Frame) (f : Frame) (rest : List Token) → f.nots + depth below ≤ limit → run limit (Wants below f) (a ++ rest) ≡ run limit (Has below f.rows (negated f.nots t)) rest
comparison_runs limit a t p below f rest le =
    ap (λ (ts : List Token). run limit (Wants below f) (ts ++ rest)) p.5 ∙ takes_value limit below f p.0 (Compares p.1 ∷ Operand p.2 ∷ rest) le p.3
    ∙ goes limit (WantsRight below f p.0 p.1) (Operand p.2 ∷ rest) le ∙ takes_right limit below f p.0 p.2 p.1 rest le p.4
    ∙ ap (λ (u : Tree). run limit (Has below f.rows (negated f.nots u)) rest) (sym p.6)

factor_runs : (limit n : ℕ) → FactorRuns limit n
factor_runs limit zero a t (inl p) below f rest nc le = alone_runs limit a t p below f rest nc (omega arith)
factor_runs limit zero a t (inr p) below f rest nc le = comparison_runs limit a t p below f rest (omega arith)
factor_runs limit (suc n) a t (inl p) below f rest nc le = alone_runs limit a t p below f rest nc (omega arith)
factor_runs limit (suc n) a t (inr (inl p)) below f rest nc le = comparison_runs limit a t p below f rest (omega arith)
factor_runs limit (suc n) a t (inr (inr (inl p))) below f rest nc le =
    let more : Frame = record { nots = suc f.nots; rows = f.rows } in
    ap (λ (ts : List Token). run limit (Wants below f) (ts ++ rest)) p.3 ∙ goes limit (Wants below more) (p.0 ++ rest) (omega arith)
    ∙ factor_runs limit n p.0 p.1 p.2 below more rest nc (omega arith) ∙ ap (λ (u : Tree). run limit (Has below f.rows (negated f.nots u)) rest) (sym p.4)
factor_runs limit (suc n) a t (inr (inr (inr p))) below f rest nc le =
    let e = condition_runs limit n (factor_runs limit n) (f ∷ below) (omega arith) p.0 t p.1 [] (Close ∷ rest) tt in
    let shut : State = Has below f.rows (negated f.nots (whole all_ops (e.lower ++ []) e.last)) in
    ap (λ (ts : List Token). run limit (Wants below f) (ts ++ rest)) p.2 ∙ goes limit (Wants (f ∷ below) fresh) ((p.0 ++ Close ∷ []) ++ rest) (omega arith)
    ∙ ap (run limit (Wants (f ∷ below) fresh)) (append_assoc p.0 (Close ∷ []) rest) ∙ e.runs ∙ goes limit shut rest (omega arith)
    ∙ ap (λ (u : Tree). run limit (Has below f.rows (negated f.nots u)) rest) (ap (λ (l : List (Option Tree)). whole all_ops l e.last) (append-nil e.lower) ∙ e.makes)

-- a condition that nests to the limit at most is read
pub condition_is_read : (limit n : ℕ) (ts : List Token) (t : Tree) → n ≤ limit → Condition n ts t → run limit (Wants [] fresh) ts ≡ Some t
condition_is_read limit n ts t le p =
    let e = condition_runs limit n (factor_runs limit n) [] (omega arith) ts t p [] [] tt in
    ap (run limit (Wants [] fresh)) (sym (append-nil ts)) ∙ e.runs ∙ ap Some (ap (λ (l : List (Option Tree)). whole all_ops l e.last) (append-nil e.lower) ∙ e.makes)
