-- Reading to values gives the values of what reading to trees gives.
use Rattle.std.proofs.Common.{◌≡◌, ℕ, zero, suc, ◌+◌, ◌-◌, ◌<◌, arith, List, [], ◌∷◌, Option, Some, None, refl, sym, ap, ◌∙◌}
use Rattle.std.specs.Prelude.{Bool, true, false, not, cond, map, option_map}
use Rattle.mi_text.specs.Lookups.{Lookups}
use Rattle.mi_cond.specs.declared.operand.Operator.{Operator}
use Rattle.mi_cond.specs.declared.token.Token.{Token}
use Rattle.mi_cond.specs.declared.token.Token.TheVariants as token
use Rattle.mi_cond.specs.Lex.{all_ops, is_good}
use Rattle.mi_cond.specs.Tree.{Tree, Alone, Compare, Not, joined}
use Rattle.mi_cond.specs.Value.{value, combine, with_operand}
use Rattle.mi_cond.specs.Steps.{Frame, StateOf, State, Wants, HasValue, WantsRight, Has, negated_by, negated, climbed_by, climbed, whole_by, whole, depth, depth_at, wants_value, has_value, joins_by, joins, closes_by, closes, level_of, step_by, step, ends_by, ends, end_by, end_of}
use Rattle.mi_cond.specs.Truths.{truths, frame_value, state_value}

abbrev values : Lookups → List (Option Tree) → List (Option Bool)
values env rows = map (option_map (λ t. value t env)) rows

joined_value : (env : Lookups) (o : Operator) (row : Option Tree) (t : Tree) → value (joined o row t) env ≡ with_operand o (option_map (λ t. value t env) row) (value t env)
joined_value env o None t = refl
joined_value env o (Some r) t = refl

negated_value : (env : Lookups) (n : ℕ) (t : Tree) → value (negated n t) env ≡ negated_by not n (value t env)
negated_value env zero t = refl
negated_value env (suc n) t = negated_value env n (Not t)

climbed_value : (env : Lookups) (k : ℕ) (os : List Operator) (rows : List (Option Tree)) (t : Tree) → climbed_by combine k os (values env rows) (value t env) ≡ values env (climbed k os rows t)
climbed_value env zero [] rows t = refl
climbed_value env (suc k) [] rows t = refl
climbed_value env zero (o ∷ os) [] t = refl
climbed_value env (suc k) (o ∷ os) [] t = refl
climbed_value env zero (o ∷ os) (row ∷ rows) t = ap (λ (b : Bool). Some b ∷ values env rows) (sym (joined_value env o row t))
climbed_value env (suc k) (o ∷ os) (row ∷ rows) t =
    ap (λ (bs : List (Option Bool)). None ∷ bs) (ap (climbed_by combine k os (values env rows)) (sym (joined_value env o row t)) ∙ climbed_value env k os rows (joined o row t))

whole_value : (env : Lookups) (os : List Operator) (rows : List (Option Tree)) (t : Tree) → whole_by combine os (values env rows) (value t env) ≡ value (whole os rows t) env
whole_value env [] rows t = refl
whole_value env (o ∷ os) [] t = refl
whole_value env (o ∷ os) (row ∷ rows) t = ap (whole_by combine os (values env rows)) (sym (joined_value env o row t)) ∙ whole_value env os rows (joined o row t)

joins_value : (env : Lookups) (below : List Frame) (rows : List (Option Tree)) (t : Tree) (b : Bool) (o : Operator) → b ≡ value t env → joins_by (truths env) (map (frame_value env) below) (values env rows) b o ≡ state_value env (joins below rows t o)
joins_value env below rows t b o e =
    ap (λ (c : Bool). joins_by (truths env) (map (frame_value env) below) (values env rows) c o) e
    ∙ ap (λ (bs : List (Option Bool)). Wants (map (frame_value env) below) (record { nots = 0; rows = bs })) (climbed_value env (level_of o) all_ops rows t)

closes_value : (env : Lookups) (below : List Frame) (rows : List (Option Tree)) (t : Tree) (b : Bool) → b ≡ value t env → closes_by (truths env) (map (frame_value env) below) (values env rows) b ≡ option_map (state_value env) (closes below rows t)
closes_value env [] rows t b e = refl
closes_value env (f ∷ below) rows t b e =
    ap (λ (c : Bool). Some (Has (map (frame_value env) below) (values env f.rows) c))
    (ap (λ (c : Bool). negated_by not f.nots (whole_by combine all_ops (values env rows) c)) e ∙ ap (negated_by not f.nots) (whole_value env all_ops rows t) ∙ sym (negated_value env f.nots (whole all_ops rows t)))

if_good : (env : Lookups) (b : Bool) (s : State) → cond b (Some (state_value env s)) None ≡ option_map (state_value env) (cond b (Some s) None)
if_good env true s = refl
if_good env false s = refl

-- a step
pub step_value : (env : Lookups) (s : State) (x : Token) → step_by (truths env) (state_value env s) x ≡ option_map (state_value env) (step s x)
step_value env (Wants below f) token.Open = refl
step_value env (Wants below f) token.Close = refl
step_value env (Wants below f) token.Negate = refl
step_value env (Wants below f) (token.Join o) = refl
step_value env (Wants below f) (token.Compare c) = refl
step_value env (Wants below f) (token.Operand v) = if_good env (is_good v) (HasValue below f v)
step_value env (HasValue below f v) token.Open = refl
step_value env (HasValue below f v) token.Close = closes_value env below f.rows (negated f.nots (Alone v)) _ (sym (negated_value env f.nots (Alone v)))
step_value env (HasValue below f v) token.Negate = refl
step_value env (HasValue below f v) (token.Join o) = ap Some (joins_value env below f.rows (negated f.nots (Alone v)) _ o (sym (negated_value env f.nots (Alone v))))
step_value env (HasValue below f v) (token.Compare c) = refl
step_value env (HasValue below f v) (token.Operand w) = refl
step_value env (WantsRight below f l c) token.Open = refl
step_value env (WantsRight below f l c) token.Close = refl
step_value env (WantsRight below f l c) token.Negate = refl
step_value env (WantsRight below f l c) (token.Join o) = refl
step_value env (WantsRight below f l c) (token.Compare d) = refl
step_value env (WantsRight below f l c) (token.Operand r) =
    ap (λ (b : Bool). cond (is_good r) (Some (Has (map (frame_value env) below) (values env f.rows) b)) None) (sym (negated_value env f.nots (Compare c l r)))
    ∙ if_good env (is_good r) (Has below f.rows (negated f.nots (Compare c l r)))
step_value env (Has below rows t) token.Open = refl
step_value env (Has below rows t) token.Close = closes_value env below rows t _ refl
step_value env (Has below rows t) token.Negate = refl
step_value env (Has below rows t) (token.Join o) = ap Some (joins_value env below rows t _ o refl)
step_value env (Has below rows t) (token.Compare c) = refl
step_value env (Has below rows t) (token.Operand v) = refl

ends_value : (env : Lookups) (below : List Frame) (rows : List (Option Tree)) (t : Tree) (b : Bool) → b ≡ value t env → ends_by (truths env) (map (frame_value env) below) (values env rows) b ≡ option_map (λ t. value t env) (ends below rows t)
ends_value env [] rows t b e = ap (λ (c : Bool). Some (whole_by combine all_ops (values env rows) c)) e ∙ ap Some (whole_value env all_ops rows t)
ends_value env (f ∷ below) rows t b e = refl

-- the end
pub end_value : (env : Lookups) (s : State) → end_by (truths env) (state_value env s) ≡ option_map (λ t. value t env) (end_of s)
end_value env (Wants below f) = refl
end_value env (HasValue below f v) = ends_value env below f.rows (negated f.nots (Alone v)) _ (sym (negated_value env f.nots (Alone v)))
end_value env (WantsRight below f l c) = refl
end_value env (Has below rows t) = ends_value env below rows t _ refl

-- one NOT more
pub negated_next : (k i : ℕ) (b v : Bool) → i < k → negated_by not (k - i) b ≡ v → negated_by not (k - (i + 1)) (not b) ≡ v
negated_next k i b v lt so_far = let less : k - i ≡ suc (k - (i + 1)) = omega arith in sym (ap (λ (j : ℕ). negated_by not j b) less) ∙ so_far

-- what doesn't turn on the values
below_same : (env : Lookups) (below : List Frame) → depth (map (frame_value env) below) ≡ depth below
below_same env [] = refl
below_same env (f ∷ below) = ap (λ (n : ℕ). suc (f.nots + n)) (below_same env below)

pub depth_same : (env : Lookups) (s : State) → depth_at (state_value env s) ≡ depth_at s
depth_same env (Wants below f) = ap (λ (n : ℕ). f.nots + n) (below_same env below)
depth_same env (HasValue below f v) = ap (λ (n : ℕ). f.nots + n) (below_same env below)
depth_same env (WantsRight below f l c) = ap (λ (n : ℕ). f.nots + n) (below_same env below)
depth_same env (Has below rows t) = below_same env below

pub wants_same : (env : Lookups) (s : State) → wants_value (state_value env s) ≡ wants_value s
wants_same env (Wants below f) = refl
wants_same env (HasValue below f v) = refl
wants_same env (WantsRight below f l c) = refl
wants_same env (Has below rows t) = refl

pub has_same : (env : Lookups) (s : State) → has_value (state_value env s) ≡ has_value s
has_same env (Wants below f) = refl
has_same env (HasValue below f v) = refl
has_same env (WantsRight below f l c) = refl
has_same env (Has below rows t) = refl

-- ---- what stands there is what was read to values

-- a step to values is one of what stands there
pub step_there : (env : Lookups) (s : State) (old new : StateOf Bool) (x : Token) → state_value env s ≡ old → step_by (truths env) old x ≡ Some new → (n : State) × (step s x ≡ Some n) × (state_value env n ≡ new)
step_there env s old new x is e = by (step s x) refl (sym (step_value env s x) ∙ ap (λ (o : StateOf Bool). step_by (truths env) o x) is ∙ e)
  where
    by : (o : Option State) → step s x ≡ o → option_map (state_value env) o ≡ Some new → (n : State) × (step s x ≡ Some n) × (state_value env n ≡ new)
    by None none e = absurd cc
    by (Some n) one e = (n, one, cc)

pub no_step_there : (env : Lookups) (s : State) (old : StateOf Bool) (x : Token) → state_value env s ≡ old → step_by (truths env) old x ≡ None → step s x ≡ None
no_step_there env s old x is e = by (step s x) refl (sym (step_value env s x) ∙ ap (λ (o : StateOf Bool). step_by (truths env) o x) is ∙ e)
  where
    by : (o : Option State) → step s x ≡ o → option_map (state_value env) o ≡ None → step s x ≡ None
    by None none e = none
    by (Some n) one e = absurd cc

pub end_there : (env : Lookups) (s : State) (old : StateOf Bool) (b : Bool) → state_value env s ≡ old → end_by (truths env) old ≡ Some b → (t : Tree) × (end_of s ≡ Some t) × (b ≡ value t env)
end_there env s old b is e = by (end_of s) refl (sym (end_value env s) ∙ ap (end_by (truths env)) is ∙ e)
  where
    by : (o : Option Tree) → end_of s ≡ o → option_map (λ t. value t env) o ≡ Some b → (t : Tree) × (end_of s ≡ Some t) × (b ≡ value t env)
    by None none e = absurd cc
    by (Some t) one e = (t, one, cc)

pub no_end_there : (env : Lookups) (s : State) (old : StateOf Bool) → state_value env s ≡ old → end_by (truths env) old ≡ None → end_of s ≡ None
no_end_there env s old is e = by (end_of s) refl (sym (end_value env s) ∙ ap (end_by (truths env)) is ∙ e)
  where
    by : (o : Option Tree) → end_of s ≡ o → option_map (λ t. value t env) o ≡ None → end_of s ≡ None
    by None none e = none
    by (Some t) one e = absurd cc
