-- What refuses a walk. (InstallExecuteSequence Table.)
use Rattle.std.specs.Prelude.{Option, None, Some}
use Rattle.mi_base.specs.declared.answers.Cause.{Cause}
use Rattle.mi_base.specs.declared.answers.Cause.TheVariants.{Table, Launch, ErrorAction}
use Rattle.mi_plan.specs.declared.turn.Turn.{Turn}
use Rattle.mi_plan.specs.declared.turn.Turn.TheVariants.{Went, Ended}

-- a fault of a row, a launch condition, or an action of type 19
abbrev pub IsWalkCause : Cause → Type 0
IsWalkCause (Table fault) = Unit {0}
IsWalkCause (Launch text) = Unit {0}
IsWalkCause (ErrorAction action text) = Unit {0}
IsWalkCause other = ⊥

abbrev pub IsWalkRefusal : Option Cause → Type 0
IsWalkRefusal None = Unit {0}
IsWalkRefusal (Some cause) = IsWalkCause cause

-- a turn that ends the walk does so by such a refusal, or by none
abbrev pub EndsRight : Turn → Type 0
EndsRight Went = Unit {0}
EndsRight (Ended why) = IsWalkRefusal why
