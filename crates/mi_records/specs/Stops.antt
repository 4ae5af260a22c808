-- What is made of a row, or why it is refused, as the program tells it. (This project's own.)
use Rattle.std.specs.Prelude.{◌≡◌, ◌<◌, ℕ, length, Option, Some, None, Result, Ok, Err}
use Rattle.mi_base.specs.declared.answers.Fault.{Fault}
use Rattle.mi_base.specs.declared.answers.Fault.TheVariants as faults
use Rattle.mi_model.specs.Texts.{Text}
use Rattle.mi_records.specs.declared.error.PlanError.{PlanError}
use Rattle.mi_records.specs.declared.error.PlanError.TheVariants as error
use Rattle.mi_records.specs.declared.stop.Why.{Why}
use Rattle.mi_records.specs.declared.stop.Why.TheVariants.{TooDeep, BadKey, BadValue}
use Rattle.mi_records.specs.declared.stop.Stop.{Stop}
use Rattle.mi_records.specs.declared.stop.Stop.TheVariants.{NoMemory, Refused}

-- the fault of a row with this number of a table
abbrev pub fault_of : Text → ℕ → Why → Fault
fault_of table row TooDeep = faults.TooDeep table row
fault_of table row BadKey = faults.BadKey table row
fault_of table row BadValue = faults.BadValue table row

-- the error is that of this row, or want of memory
abbrev pub IsRefusal : Text → ℕ → Stop → PlanError → Type 0
IsRefusal table row stop error.NoMemory = Unit {0}
IsRefusal table row NoMemory (error.Fault f) = ⊥
IsRefusal table row (Refused why) (error.Fault f) = f ≡ fault_of table row why

-- the program's answer, seen through a function, is this value, or this refusal of the row
abbrev pub AnswersBy : {A B : Type 0} → (A → B) → Text → ℕ → Result B Fault → Result A Stop → Type 0
AnswersBy seen table row does (Ok a) = does ≡ Ok (seen a)
AnswersBy seen table row does (Err NoMemory) = Unit {0}
AnswersBy seen table row does (Err (Refused why)) = does ≡ Err (fault_of table row why)

abbrev pub Answers : {A : Type 0} → Text → ℕ → Result A Fault → Result A Stop → Type 0
Answers {A} table row does result = AnswersBy (λ (a : A). a) table row does result

-- the same where a text of more bytes than a limit isn't made
abbrev pub AnswersWithin : ℕ → Text → ℕ → Result Text Fault → Result (Option Text) Stop → Type 0
AnswersWithin limit table row does (Ok (Some text)) = does ≡ Ok text
AnswersWithin limit table row does (Ok None) = (text : Text) × (does ≡ Ok text) × (limit < length text)
AnswersWithin limit table row does (Err NoMemory) = Unit {0}
AnswersWithin limit table row does (Err (Refused why)) = does ≡ Err (fault_of table row why)

-- an answer that is refused for want of memory alone
abbrev pub stop_of : {A E : Type 0} → Result A E → Result A Stop
stop_of (Ok a) = Ok a
stop_of (Err e) = Err NoMemory

-- the same as a whole call tells it
abbrev pub TellsBy : {A B : Type 0} → (A → B) → Result B Fault → Result A PlanError → Type 0
TellsBy seen does (Ok a) = does ≡ Ok (seen a)
TellsBy seen does (Err error.NoMemory) = Unit {0}
TellsBy seen does (Err (error.Fault f)) = does ≡ Err f

abbrev pub Tells : {A : Type 0} → Result A Fault → Result A PlanError → Type 0
Tells {A} does result = TellsBy (λ (a : A). a) does result
