-- What an action does, or why it does nothing, as the program tells it. (This project's own.)
use Rattle.std.specs.Prelude.{◌≡◌, Bool, true, false, codes, Result, Ok, Err}
use Rattle.mi_text.specs.Maps.{Name}
use Rattle.mi_base.specs.declared.answers.Fault.{Fault}
use Rattle.mi_base.specs.declared.answers.Fault.TheVariants as faults
use Rattle.mi_model.specs.Steps as model
use Rattle.mi_seq.specs.declared.refusal.Why.{Why}
use Rattle.mi_seq.specs.declared.refusal.Why.TheVariants.{UnknownAction, Executable, SequenceOrder, TooDeep}
use Rattle.mi_seq.specs.declared.refusal.Stop.{Stop}
use Rattle.mi_seq.specs.declared.refusal.Stop.TheVariants.{NoMemory, Refused}
use Rattle.mi_seq.specs.declared.step.Step.{Step}
use Rattle.mi_seq.specs.declared.step.Step.TheVariants.{End}
use Rattle.mi_seq.specs.Meaning.{meant, action_of}

-- the fault of an action that is refused
abbrev pub fault_of : Name → Why → Fault
fault_of action UnknownAction = faults.UnknownAction action
fault_of action Executable = faults.Executable action
fault_of action SequenceOrder = faults.SequenceOrder action
fault_of action (TooDeep row) = faults.TooDeep (codes "CustomAction") row

abbrev pub is_end : Step → Bool
is_end End = true
is_end step = false

-- the program's answer is this step of the action, or this refusal of it
abbrev pub Answers : Result model.Step Fault → Name → Result Step Stop → Type 0
Answers does action (Ok step) = (does ≡ Ok (meant step)) × (action_of step ≡ action) × (is_end step ≡ false)
Answers does action (Err (Refused why)) = does ≡ Err (fault_of action why)
Answers does action (Err NoMemory) = Unit {0}
