-- A condition token by token, for the private functions that read one: what stands before the next token, over the trees
-- of what has been read, or over what else stands for them.
use Rattle.std.specs.Prelude.{ℕ, zero, suc, ◌+◌, Bool, true, false, if◌then◌else◌, List, [], ◌∷◌, Option, Some, None}
use Rattle.mi_cond.specs.declared.operand.Operator.{Operator}
use Rattle.mi_cond.specs.declared.operand.Operator.TheVariants as op
use Rattle.mi_cond.specs.declared.operand.Comparison.{Comparison}
use Rattle.mi_cond.specs.declared.operand.Value.{Value}
use Rattle.mi_cond.specs.declared.token.Token.{Token}
use Rattle.mi_cond.specs.declared.token.Token.TheVariants as token
use Rattle.mi_cond.specs.Lex.{all_ops, is_good}
use Rattle.mi_cond.specs.Tree.{Tree, Alone, Compare, Not, Both, joined_by}

-- what stands for the forms of a condition
pub record Forms (T : Type 0) : Type 0 where
  pub alone : Value → T
  pub compared : Comparison → Value → Value → T
  pub negation : T → T
  pub both : Operator → T → T → T

abbrev pub trees : Forms Tree
trees = record { alone = Alone; compared = Compare; negation = Not; both = Both }

-- an open bracket, or the whole text: how many NOT stand before the next factor, and the rows so far, from the tightest
pub record FrameOf (T : Type 0) : Type 0 where
  pub nots : ℕ
  pub rows : List (Option T)

abbrev pub Frame : Type 0
Frame = FrameOf Tree

abbrev pub fresh : {T : Type 0} → FrameOf T
fresh = record { nots = 0; rows = None ∷ None ∷ None ∷ None ∷ None ∷ [] }

abbrev pub negated_by : {T : Type 0} → (T → T) → ℕ → T → T
negated_by negation zero t = t
negated_by negation (suc n) t = negated_by negation n (negation t)

abbrev pub negated : ℕ → Tree → Tree
negated = negated_by Not

-- the rows after an operator of level k: the tighter rows end, and this one goes on
abbrev pub climbed_by : {T : Type 0} → (Operator → T → T → T) → ℕ → List Operator → List (Option T) → T → List (Option T)
climbed_by both zero (o ∷ os) (row ∷ rows) t = Some (joined_by both o row t) ∷ rows
climbed_by both (suc k) (o ∷ os) (row ∷ rows) t = None ∷ climbed_by both k os rows (joined_by both o row t)
climbed_by both k os rows t = []

abbrev pub climbed : ℕ → List Operator → List (Option Tree) → Tree → List (Option Tree)
climbed = climbed_by Both

-- all rows end
abbrev pub whole_by : {T : Type 0} → (Operator → T → T → T) → List Operator → List (Option T) → T → T
whole_by both (o ∷ os) (row ∷ rows) t = whole_by both os rows (joined_by both o row t)
whole_by both os rows t = t

abbrev pub whole : List Operator → List (Option Tree) → Tree → Tree
whole = whole_by Both

abbrev pub level_of : Operator → ℕ
level_of op.And = 0
level_of op.Or = 1
level_of op.Xor = 2
level_of op.Eqv = 3
level_of op.Imp = 4

-- the nesting inside brackets
abbrev pub depth : {T : Type 0} → List (FrameOf T) → ℕ
depth [] = 0
depth (f ∷ below) = suc (f.nots + depth below)

-- a factor is wanted; a value has been read; the right side of a comparison is wanted; a factor has been read
pub data StateOf (T : Type 0) : Type 0 where
  Wants : (below : List (FrameOf T)) → (top : FrameOf T) → StateOf T
  HasValue : (below : List (FrameOf T)) → (top : FrameOf T) → (value : Value) → StateOf T
  WantsRight : (below : List (FrameOf T)) → (top : FrameOf T) → (left : Value) → (comparison : Comparison) → StateOf T
  Has : (below : List (FrameOf T)) → (rows : List (Option T)) → (tree : T) → StateOf T

abbrev pub State : Type 0
State = StateOf Tree

abbrev pub depth_at : {T : Type 0} → StateOf T → ℕ
depth_at (Wants below f) = f.nots + depth below
depth_at (HasValue below f v) = f.nots + depth below
depth_at (WantsRight below f l c) = f.nots + depth below
depth_at (Has below rows t) = depth below

-- whether a value may stand here
abbrev pub wants_value : {T : Type 0} → StateOf T → Bool
wants_value (Wants below f) = true
wants_value (HasValue below f v) = false
wants_value (WantsRight below f l c) = true
wants_value (Has below rows t) = false

-- whether an operator of comparison may stand here
abbrev pub has_value : {T : Type 0} → StateOf T → Bool
has_value (Wants below f) = false
has_value (HasValue below f v) = true
has_value (WantsRight below f l c) = false
has_value (Has below rows t) = false

abbrev pub joins_by : {T : Type 0} → Forms T → List (FrameOf T) → List (Option T) → T → Operator → StateOf T
joins_by by below rows t o = Wants below (record { nots = 0; rows = climbed_by by.both (level_of o) all_ops rows t })

abbrev pub joins : List Frame → List (Option Tree) → Tree → Operator → State
joins = joins_by trees

abbrev pub closes_by : {T : Type 0} → Forms T → List (FrameOf T) → List (Option T) → T → Option (StateOf T)
closes_by by [] rows t = None
closes_by by (f ∷ below) rows t = Some (Has below f.rows (negated_by by.negation f.nots (whole_by by.both all_ops rows t)))

abbrev pub closes : List Frame → List (Option Tree) → Tree → Option State
closes = closes_by trees

-- the state after a token, where one may stand
abbrev pub step_by : {T : Type 0} → Forms T → StateOf T → Token → Option (StateOf T)
step_by by (Wants below f) token.Open = Some (Wants (f ∷ below) fresh)
step_by by (Wants below f) token.Close = None
step_by by (Wants below f) token.Negate = Some (Wants below (record { nots = suc f.nots; rows = f.rows }))
step_by by (Wants below f) (token.Join o) = None
step_by by (Wants below f) (token.Compare c) = None
step_by by (Wants below f) (token.Operand v) = if is_good v then Some (HasValue below f v) else None
step_by by (HasValue below f v) token.Open = None
step_by by (HasValue below f v) token.Close = closes_by by below f.rows (negated_by by.negation f.nots (by.alone v))
step_by by (HasValue below f v) token.Negate = None
step_by by (HasValue below f v) (token.Join o) = Some (joins_by by below f.rows (negated_by by.negation f.nots (by.alone v)) o)
step_by by (HasValue below f v) (token.Compare c) = Some (WantsRight below f v c)
step_by by (HasValue below f v) (token.Operand w) = None
step_by by (WantsRight below f l c) token.Open = None
step_by by (WantsRight below f l c) token.Close = None
step_by by (WantsRight below f l c) token.Negate = None
step_by by (WantsRight below f l c) (token.Join o) = None
step_by by (WantsRight below f l c) (token.Compare d) = None
step_by by (WantsRight below f l c) (token.Operand r) =
    if is_good r then Some (Has below f.rows (negated_by by.negation f.nots (by.compared c l r))) else None
step_by by (Has below rows t) token.Open = None
step_by by (Has below rows t) token.Close = closes_by by below rows t
step_by by (Has below rows t) token.Negate = None
step_by by (Has below rows t) (token.Join o) = Some (joins_by by below rows t o)
step_by by (Has below rows t) (token.Compare c) = None
step_by by (Has below rows t) (token.Operand v) = None

abbrev pub step : State → Token → Option State
step = step_by trees

-- the factor that has been read, behind its NOT
abbrev pub settled_by : {T : Type 0} → Forms T → StateOf T → Option T
settled_by by (Wants below f) = None
settled_by by (HasValue below f v) = Some (negated_by by.negation f.nots (by.alone v))
settled_by by (WantsRight below f l c) = None
settled_by by (Has below rows t) = Some t

abbrev pub ends_by : {T : Type 0} → Forms T → List (FrameOf T) → List (Option T) → T → Option T
ends_by by [] rows t = Some (whole_by by.both all_ops rows t)
ends_by by (f ∷ below) rows t = None

abbrev pub ends : List Frame → List (Option Tree) → Tree → Option Tree
ends = ends_by trees

-- what has been read as a whole, where the text may end
abbrev pub end_by : {T : Type 0} → Forms T → StateOf T → Option T
end_by by (Wants below f) = None
end_by by (HasValue below f v) = ends_by by below f.rows (negated_by by.negation f.nots (by.alone v))
end_by by (WantsRight below f l c) = None
end_by by (Has below rows t) = ends_by by below rows t

abbrev pub end_of : State → Option Tree
end_of = end_by trees
