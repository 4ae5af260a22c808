-- The answer for a text as one function, byte by byte. proofs/AnswerLaws shows that it is the one that the grammar gives.
use Rattle.std.specs.Prelude.{◌≡◌, ℕ, ◌+◌, nat_lt, if◌then◌else◌, List, [], ◌∷◌, Option, Some, None, Result, Ok, Err, pos}
use Rattle.mi_cond.specs.declared.error.CondFault.{CondFault}
use Rattle.mi_cond.specs.declared.error.CondFault.TheVariants.{Syntax, TooDeep}
use Rattle.mi_cond.specs.declared.error.CondError.{CondError}
use Rattle.mi_cond.specs.declared.error.CondError.TheVariants as error
use Rattle.mi_cond.specs.declared.operand.Value.TheVariants as value
use Rattle.mi_cond.specs.Tree.{Tree, Alone}
use Rattle.mi_cond.specs.Place.{IsRead, IsConditionFault}
use Rattle.mi_cond.specs.Steps.{State, Wants, fresh, depth_at}
use Rattle.mi_cond.specs.Moves.{Place, between, byte, read_end}

-- what the grammar says of a text: it reads as this condition and no other, or has this fault
abbrev pub IsAnswer : Result Tree CondFault → List ℕ → Type 0
IsAnswer (Ok tree) text = IsRead text tree
IsAnswer (Err f) text = IsConditionFault f text

abbrev pub ended : ℕ → Option Tree → Result Tree CondFault
ended place None = Err (Syntax place)
ended place (Some tree) = Ok tree

-- brackets and NOT nest to 64
abbrev pub shallow : ℕ → State → Result Tree CondFault → Result Tree CondFault
shallow place s more = if nat_lt 64 (depth_at s) then Err (TooDeep place) else more

abbrev pub goes_on : ℕ → Option Place → (Place → Result Tree CondFault) → Result Tree CondFault
goes_on place None more = Err (Syntax place)
goes_on place (Some p) more = shallow place p.state (more p)

abbrev pub read_from : ℕ → List ℕ → Place → Result Tree CondFault
read_from place [] p = ended place (read_end p)
read_from place (b ∷ bs) p = goes_on place (byte p b) (read_from (place + 1) bs)

-- the condition of a text, or its fault
unfoldable pub condition_of : List ℕ → Result Tree CondFault
condition_of text = read_from 0 text (between (Wants [] fresh))

-- the tree of an answer that has one
abbrev pub tree_in : Result Tree CondFault → Tree
tree_in (Ok tree) = tree
tree_in (Err f) = Alone (value.Integer (pos 0))

-- the text is a condition
unfoldable pub IsCondition : List ℕ → Type 0
IsCondition text = condition_of text ≡ Ok (tree_in (condition_of text))

-- what `Cond::read` answers
abbrev pub Answers : Result Tree CondError → List ℕ → Type 0
Answers (Ok tree) text = condition_of text ≡ Ok tree
Answers (Err error.NoMemory) text = Unit {0}
Answers (Err (error.Fault f)) text = condition_of text ≡ Err f
