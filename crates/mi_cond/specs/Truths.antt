-- A condition read token by token as its value: each part of what has been read stands as whether it holds.
use Rattle.std.specs.Prelude.{◌≡◌, ℕ, Bool, not, List, [], map, option_map, Result, Ok, Err, negsuc}
use Rattle.mi_text.specs.Lookups.{Lookups}
use Rattle.mi_cond.specs.declared.error.CondFault.{CondFault}
use Rattle.mi_cond.specs.Tree.{Tree}
use Rattle.mi_cond.specs.Value.{is_true, compare, combine, value}
use Rattle.mi_cond.specs.Steps.{Forms, FrameOf, Frame, StateOf, State, Wants, HasValue, WantsRight, Has}
use Rattle.mi_cond.specs.Answer.{condition_of}

abbrev pub truths : Lookups → Forms Bool
truths env = record { alone = is_true env; compared = compare env; negation = not; both = combine }

abbrev pub frame_value : Lookups → Frame → FrameOf Bool
frame_value env f = record { nots = f.nots; rows = map (option_map (λ t. value t env)) f.rows }

-- what has been read, as values
abbrev pub state_value : Lookups → State → StateOf Bool
state_value env (Wants below f) = Wants (map (frame_value env) below) (frame_value env f)
state_value env (HasValue below f v) = HasValue (map (frame_value env) below) (frame_value env f) v
state_value env (WantsRight below f l c) = WantsRight (map (frame_value env) below) (frame_value env f) l c
state_value env (Has below rows t) = Has (map (frame_value env) below) (map (option_map (λ t. value t env)) rows) (value t env)

-- surroundings in which nothing is known
abbrev pub nothing : Lookups
nothing = record { property = λ name. []; variable = λ name. []; file = λ key. []; folder = λ key. []; state = λ sign key. negsuc 0 }

-- what the private reader of a text gives: the value of the condition that it is, or its fault
abbrev pub AnswersValue : Lookups → Result Bool CondFault → List ℕ → Type 0
AnswersValue env (Ok holds) text = (t : Tree) × (condition_of text ≡ Ok t) × (holds ≡ value t env)
AnswersValue env (Err f) text = condition_of text ≡ Err f
