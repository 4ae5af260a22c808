-- What stands at the front of a text, for the private functions that read one.
use Rattle.std.specs.Prelude.{◌≡◌, ℕ, zero, suc, ◌+◌, ◌*◌, ◌-◌, ◌<◌, ◌≤◌, nat_le, nat_lt, ◌==◌, ◌&&◌, not, Bool, true, false, if◌then◌else◌, List, [], ◌∷◌, length, drop, Option, Some, None, option_map, Result, Ok, Err}
use Rattle.mi_text.specs.Lookups.{Lookups}
use Rattle.mi_cond.specs.declared.error.CondFault.{CondFault}
use Rattle.mi_cond.specs.declared.error.CondFault.TheVariants.{Syntax, TooDeep}
use Rattle.mi_cond.specs.declared.operand.Value.TheVariants as value
use Rattle.mi_cond.specs.declared.token.Token.{Token}
use Rattle.mi_cond.specs.declared.token.Token.TheVariants as token
use Rattle.mi_cond.specs.declared.front.Front.{Front}
use Rattle.mi_cond.specs.declared.front.Front.TheVariants as front
use Rattle.mi_cond.specs.declared.front.Begun.{Begun}
use Rattle.mi_cond.specs.declared.front.Begun.TheVariants as begin_as
use Rattle.mi_cond.specs.Tree.{Tree}
use Rattle.mi_cond.specs.Integer.{is_digit, signed}
use Rattle.mi_cond.specs.Lex.{is_blank, is_letter}
use Rattle.mi_cond.specs.Steps.{Forms, StateOf, State, depth_at, step_by, step, end_of, wants_value, has_value}
use Rattle.mi_cond.specs.Moves.{Mode, InWord, InSymbol, InLiteral, AfterMinus, InDigits, AfterTilde, InComparison, Move, Grows, Wrong, begin, first_at, between}
use Rattle.mi_cond.specs.Truths.{state_value}
use Rattle.mi_cond.specs.Answer.{ended, shallow, goes_on, read_from}

-- no blank and no bracket
abbrev pub is_plain : ℕ → Bool
is_plain b = not (is_blank b) && not (b == 40) && not (b == 41)

-- how many bytes at the front pass a test
abbrev pub front_length : (ℕ → Bool) → List ℕ → ℕ
front_length test [] = zero
front_length test (b ∷ bs) = if test b then suc (front_length test bs) else zero

abbrev pub begun : Begun → ℕ → Move
begun begin_as.Quote b = Grows (InLiteral [])
begun begin_as.Minus b = Grows AfterMinus
begun begin_as.Tilde b = Grows AfterTilde
begun begin_as.Digit b = Grows (InDigits false (b - 48))
begun begin_as.Letter b = Grows (InWord (b ∷ []))
begun (begin_as.Symbol m) b = Grows (InSymbol m [])
begun (begin_as.Comparison r) b = Grows (InComparison (record { relation = r; folds = false }))
begun begin_as.Nothing b = Wrong

-- a digit or a letter is one
abbrev pub IsNamed : Begun → ℕ → Type 0
IsNamed begin_as.Digit b = is_digit b ≡ true
IsNamed begin_as.Letter b = is_letter b ≡ true
IsNamed begin_as.Quote b = Unit {0}
IsNamed begin_as.Minus b = Unit {0}
IsNamed begin_as.Tilde b = Unit {0}
IsNamed (begin_as.Symbol m) b = Unit {0}
IsNamed (begin_as.Comparison r) b = Unit {0}
IsNamed begin_as.Nothing b = Unit {0}

-- ---- places between tokens

-- from a state whose next byte isn't looked at yet
abbrev pub read_at : ℕ → State → List ℕ → Result Tree CondFault
read_at at s [] = ended at (end_of s)
read_at at s (b ∷ bs) = goes_on at (first_at s (begin b)) (read_from (at + 1) bs)

-- behind a token, where it may stand
abbrev pub left_at : ℕ → Option State → List ℕ → Result Tree CondFault
left_at at None rest = Err (Syntax at)
left_at at (Some s) rest = read_at at s rest

abbrev pub by_front : ℕ → State → List ℕ → Front → Result Tree CondFault
by_front at s rest front.Blank = shallow at s (read_at (at + 1) s (drop 1 rest))
by_front at s rest (front.Bracket x) = goes_on at (option_map between (step s x)) (read_from (at + 1) (drop 1 rest))
by_front at s rest (front.Token x n) = shallow at s (left_at (at + n) (step s x) (drop n rest))
by_front at s rest (front.Dead n) = shallow at s (Err (Syntax (at + n)))
by_front at s rest front.Refused = Err (Syntax at)

abbrev pub IsWithin : Front → List ℕ → Type 0
IsWithin (front.Token x n) rest = (0 < n) × (n ≤ length rest)
IsWithin (front.Dead n) rest = n ≤ length rest
IsWithin f rest = Unit {0}

abbrev pub IsLong : Front → Type 0
IsLong (front.Token x n) = Unit {0}
IsLong (front.Dead n) = Unit {0}
IsLong f = ⊥

-- where such a state reads on, it reads what stands at the front
pub record IsAt (Such : State → Type 0) (rest : List ℕ) (f : Front) : Type 0 where
  pub within : IsWithin f rest
  pub reads : (at : ℕ) (s : State) → Such s → read_at at s rest ≡ by_front at s rest f

-- where a token has begun with the first n bytes, it goes on to what stands at the front
pub record Follows (n : ℕ) (m : Mode) (Such : State → Type 0) (rest : List ℕ) (f : Front) : Type 0 where
  pub long : IsLong f
  pub within : IsWithin f rest
  pub reads : (at : ℕ) (s : State) → Such s → depth_at s ≤ 64 → read_from (at + n) (drop n rest) (record { mode = m; state = s }) ≡ by_front at s rest f

abbrev pub WantsValue : State → Type 0
WantsValue s = wants_value s ≡ true

abbrev pub WantsOperator : State → Type 0
WantsOperator s = wants_value s ≡ false

abbrev pub ComparesValue : State → Type 0
ComparesValue s = has_value s ≡ true

abbrev pub BehindValue : Bool → State → Type 0
BehindValue has s = (wants_value s ≡ false) × (has_value s ≡ has)

abbrev pub Stands : Bool → Bool → State → Type 0
Stands wants has s = (wants_value s ≡ wants) × (has_value s ≡ has)

abbrev pub digits_front : Bool → ℕ → ℕ → List ℕ → Front
digits_front negative size n [] = front.Token (token.Operand (value.Integer (signed negative size))) n
digits_front negative size n (b ∷ bs) =
    if is_digit b then (if nat_le (10 * size + (b - 48)) 2147483647 then digits_front negative (10 * size + (b - 48)) (n + 1) bs else front.Dead n)
    else front.Token (token.Operand (value.Integer (signed negative size))) n

-- what a private function that reads on in a text gives: a later place, or why there is none
pub record ReadsTo (text : List ℕ) (at : ℕ) (old : State) (later : ℕ) (new : State) : Type 0 where
  pub on : at < later
  pub within : later ≤ length text
  pub shallow : depth_at new ≤ 65
  pub same : read_at at old (drop at text) ≡ read_at later new (drop later text)

-- and what was read so far is the value of what stands there then
abbrev pub ReadsOn : Lookups → List ℕ → ℕ → State → StateOf Bool → Result ℕ CondFault → Type 0
ReadsOn env text at old new (Ok later) = (s : State) × (state_value env s ≡ new) × ReadsTo text at old later s
ReadsOn env text at old new (Err f) = read_at at old (drop at text) ≡ Err f

-- behind a token of n bytes
abbrev pub TokenRead : {T : Type 0} → Forms T → ℕ → ℕ → StateOf T → Token → StateOf T → Result ℕ CondFault → Type 0
TokenRead by at n old x new (Ok later) = (later ≡ at + n) × (depth_at old ≤ 64) × (step_by by old x ≡ Some new)
TokenRead by at n old x new (Err f) =
    (f ≡ (if nat_lt 64 (depth_at old) then TooDeep at else Syntax (at + n))) × (depth_at old ≤ 64 → step_by by old x ≡ None)

-- behind a bracket
abbrev pub BracketRead : {T : Type 0} → Forms T → ℕ → StateOf T → Token → StateOf T → Result ℕ CondFault → Type 0
BracketRead by at old x new (Ok later) = (later ≡ at + 1) × (depth_at new ≤ 64) × (step_by by old x ≡ Some new)
BracketRead by at old x new (Err (Syntax place)) = (place ≡ at) × (step_by by old x ≡ None)
BracketRead by at old x new (Err (TooDeep place)) = (place ≡ at) × (64 < depth_at new) × (step_by by old x ≡ Some new)
