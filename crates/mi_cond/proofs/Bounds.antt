-- What the steps keep within bounds.
use Rattle.std.proofs.Common.{◌≡◌, suc, ◌+◌, ◌≤◌, List, [], ◌∷◌, Option, Some, subst, arith}
use Rattle.mi_cond.proofs.Basics.{none_some, guard_some}
use Rattle.mi_cond.specs.declared.token.Token.{Token}
use Rattle.mi_cond.specs.declared.token.Token.TheVariants.{Open, Close, Negate, Join, Operand, Compare as Compares}
use Rattle.mi_cond.specs.Tree.{Tree, Alone, Compare}
use Rattle.mi_cond.specs.Lex.{all_ops, is_good}
use Rattle.mi_cond.specs.Steps.{Frame, fresh, negated, whole, depth, State, Wants, HasValue, WantsRight, Has, depth_at, joins, closes, step}

is_next : (s m n : State) → Some m ≡ Some n → depth_at m ≤ depth_at s + 1 → depth_at n ≤ depth_at s + 1
is_next s m n e h = let same : m ≡ n = cc in subst (λ (k : State). depth_at k ≤ depth_at s + 1) same h

closes_next : (s : State) (below : List Frame) (rows : List (Option Tree)) (t : Tree) (n : State) → depth below ≤ depth_at s → closes below rows t ≡ Some n → depth_at n ≤ depth_at s + 1
closes_next s [] rows t n le e = none_some n e
closes_next s (f ∷ below) rows t n le e = is_next s (Has below f.rows (negated f.nots (whole all_ops rows t))) n e (omega arith)

-- a token nests deeper by one at most
pub step_depth : (s : State) (x : Token) (n : State) → step s x ≡ Some n → depth_at n ≤ depth_at s + 1
step_depth (Wants below f) Open n e = is_next (Wants below f) (Wants (f ∷ below) fresh) n e (omega arith)
step_depth (Wants below f) Close n e = none_some n e
step_depth (Wants below f) Negate n e = is_next (Wants below f) (Wants below (record { nots = suc f.nots; rows = f.rows })) n e (omega arith)
step_depth (Wants below f) (Join o) n e = none_some n e
step_depth (Wants below f) (Compares c) n e = none_some n e
step_depth (Wants below f) (Operand v) n e = is_next (Wants below f) (HasValue below f v) n (guard_some (is_good v) (Some (HasValue below f v)) n e).1 (omega arith)
step_depth (HasValue below f v) Open n e = none_some n e
step_depth (HasValue below f v) Close n e = closes_next (HasValue below f v) below f.rows (negated f.nots (Alone v)) n (omega arith) e
step_depth (HasValue below f v) Negate n e = none_some n e
step_depth (HasValue below f v) (Join o) n e = is_next (HasValue below f v) (joins below f.rows (negated f.nots (Alone v)) o) n e (omega arith)
step_depth (HasValue below f v) (Compares c) n e = is_next (HasValue below f v) (WantsRight below f v c) n e (omega arith)
step_depth (HasValue below f v) (Operand w) n e = none_some n e
step_depth (WantsRight below f l c) Open n e = none_some n e
step_depth (WantsRight below f l c) Close n e = none_some n e
step_depth (WantsRight below f l c) Negate n e = none_some n e
step_depth (WantsRight below f l c) (Join o) n e = none_some n e
step_depth (WantsRight below f l c) (Compares d) n e = none_some n e
step_depth (WantsRight below f l c) (Operand r) n e =
    let next : State = Has below f.rows (negated f.nots (Compare c l r)) in
    is_next (WantsRight below f l c) next n (guard_some (is_good r) (Some next) n e).1 (omega arith)
step_depth (Has below rows t) Open n e = none_some n e
step_depth (Has below rows t) Close n e = closes_next (Has below rows t) below rows t n (omega arith) e
step_depth (Has below rows t) Negate n e = none_some n e
step_depth (Has below rows t) (Join o) n e = is_next (Has below rows t) (joins below rows t o) n e (omega arith)
step_depth (Has below rows t) (Compares c) n e = none_some n e
step_depth (Has below rows t) (Operand v) n e = none_some n e

pub ruleset bounds = (step_depth)
