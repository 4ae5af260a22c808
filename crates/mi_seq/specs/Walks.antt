-- Where a walk of the program stands, and what its next step tells. (InstallExecuteSequence table.)
use Rattle.std.specs.Prelude.{◌≡◌, ℕ, true, false, List, [], ◌∷◌, ◌++◌, Option, Some, None, slice_get, option_map, unwrap_or, Result, Ok, Err}
use Rattle.mi_text.specs.Maps.{Name}
use Rattle.mi_text.specs.Lookups.{Lookups}
use Rattle.mi_base.specs.declared.answers.Fault.{Fault}
use Rattle.mi_base.specs.declared.answers.Fault.TheVariants as faults
use Rattle.mi_schema.specs.declared.package.Package.{Package}
use Rattle.mi_schema.specs.declared.typed_rows.InstallExecuteSequenceRow.{InstallExecuteSequenceRow}
use Rattle.mi_schema.specs.RowsOf.{rows_in}
use Rattle.mi_model.specs.Sequence.{is_inside, next_row}
use Rattle.mi_model.specs.Steps.{step_of}
use Rattle.mi_seq_rows.specs.Stages.{Reaches}
use Rattle.mi_seq.specs.declared.step.Step.{Step}
use Rattle.mi_seq.specs.declared.step.Step.TheVariants.{End}
use Rattle.mi_seq.specs.declared.walk.Walk.{Walk}
use Rattle.mi_seq.specs.declared.walk.Refusal.{Refusal}
use Rattle.mi_seq.specs.declared.walk.Refusal.TheVariants as refusal
use Rattle.mi_seq.specs.declared.refusal.Stop.{Stop}
use Rattle.mi_seq.specs.declared.refusal.Stop.TheVariants as stop
use Rattle.mi_seq.specs.declared.error.SeqError.{SeqError}
use Rattle.mi_seq.specs.declared.error.SeqError.TheVariants.{NoMemory, Refused}
use Rattle.mi_seq.specs.Meaning.{meant, action_of}
use Rattle.mi_seq.specs.Stops.{fault_of}
use Rattle.mi_seq.specs.Orders.{rows_at}

-- the rows of the package that are left
abbrev pub rest : Package → Walk → List InstallExecuteSequenceRow
rest p w = rows_at (rows_in p).install_execute_sequence w.rest.now

-- these actions are begun, and none is refused
pub record Stands (w : Walk) (begun : List Name) : Type 0 where
  pub unrefused : w.refusal ≡ None
  pub stage : Reaches w.stage begun

-- ---- what Ok tells

-- the first row that holds is begun, and does this
pub record Begins (p : Package) (L : Lookups) (begun : List Name) (old new : Walk) (step : Step) : Type 0 where
  pub row : InstallExecuteSequenceRow
  pub next : ◌≡◌ {A = Option (InstallExecuteSequenceRow × List InstallExecuteSequenceRow)} (next_row L (rest p old)) (Some (row, rest p new))
  pub does : step_of (rows_in p) L begun row.action ≡ Ok (meant step)
  pub action : action_of step ≡ row.action
  pub stands : Stands new (begun ++ row.action ∷ [])

-- no row that holds is left, and the rows may end here
pub record Ends (p : Package) (L : Lookups) (begun : List Name) (old new : Walk) : Type 0 where
  pub none : next_row L (rest p old) ≡ None
  pub outside : is_inside begun ≡ false
  pub stays : new ≡ old

abbrev pub Steps : Package → Lookups → List Name → Walk → Walk → Step → Type 0
Steps p L begun old new End = Ends p L begun old new
Steps p L begun old new step = Begins p L begun old new step

-- ---- what a refusal tells

-- the first row that holds is refused, which has this action
pub record Refuses (p : Package) (L : Lookups) (begun : List Name) (w : Walk) (action : Name) (fault : Fault) : Type 0 where
  pub row : InstallExecuteSequenceRow
  pub behind : List InstallExecuteSequenceRow
  pub next : ◌≡◌ {A = Option (InstallExecuteSequenceRow × List InstallExecuteSequenceRow)} (next_row L (rest p w)) (Some (row, behind))
  pub named : action ≡ row.action
  pub does : step_of (rows_in p) L begun row.action ≡ Err fault

-- no row that holds is left, after InstallInitialize without InstallFinalize
pub record Unfinished (p : Package) (L : Lookups) (begun : List Name) (w : Walk) (fault : Fault) : Type 0 where
  pub none : next_row L (rest p w) ≡ None
  pub inside : is_inside begun ≡ true
  pub is : fault ≡ faults.NoFinalize

abbrev pub IsRefused : Package → Lookups → List Name → Walk → Option Name → Fault → Type 0
IsRefused p L begun w (Some action) fault = Refuses p L begun w action fault
IsRefused p L begun w None fault = Unfinished p L begun w fault

-- ---- a walk that was refused

-- the action of the row at a place
abbrev pub action_at : Package → ℕ → Name
action_at p place = unwrap_or (option_map (λ (r : InstallExecuteSequenceRow). r.action) (slice_get (rows_in p).install_execute_sequence place)) []

abbrev pub told : Package → Refusal → Option Name × Fault
told p (refusal.Action place why) = (Some (action_at p place), fault_of (action_at p place) why)
told p refusal.NoFinalize = (None, faults.NoFinalize)

-- what it was refused with
abbrev pub refusal_of : Package → Walk → Option (Option Name × Fault)
refusal_of p w = option_map (told p) w.refusal

-- ---- by the answer

-- a refusal with this
abbrev pub IfRefused : Result Step SeqError → (Option Name → Fault → Type 0) → Type 0
IfRefused (Err (Refused action fault)) P = P action fault
IfRefused (Err NoMemory) P = Unit {0}
IfRefused (Ok step) P = Unit {0}

abbrev pub IfNoMemory : Result Step SeqError → Type 0 → Type 0
IfNoMemory (Err NoMemory) P = P
IfNoMemory (Err (Refused action fault)) P = Unit {0}
IfNoMemory (Ok step) P = Unit {0}

-- this refusal, or want of memory
abbrev pub Tells : SeqError → Option Name × Fault → Type 0
Tells NoMemory r = Unit {0}
Tells (Refused action fault) r = ◌≡◌ {A = Option Name × Fault} (action, fault) r

abbrev pub IsAgain : Result Step SeqError → Option Name × Fault → Type 0
IsAgain (Ok step) r = ⊥
IsAgain (Err error) r = Tells error r

-- all of it
abbrev pub Turned : Package → Lookups → Walk → Walk → Result Step SeqError → Type 0
Turned p L old new (Ok step) = (begun : List Name) → Stands old begun → Steps p L begun old new step
Turned p L old new (Err (Refused action fault)) = ((begun : List Name) → Stands old begun → IsRefused p L begun old action fault) × ◌≡◌ {A = Option (Option Name × Fault)} (refusal_of p new) (Some (action, fault))
Turned p L old new (Err NoMemory) = new ≡ old

-- a refusal is kept, and nothing else changes
abbrev pub KeepsRefusal : Walk → Walk → Refusal → SeqError → Type 0
KeepsRefusal old new why NoMemory = new ≡ old
KeepsRefusal old new why (Refused action fault) = new ≡ record old { refusal = Some why }

-- an action without a step is refused, or memory is wanting
abbrev pub Halts : Package → Walk → Walk → ℕ → Stop → SeqError → Type 0
Halts p old new place stop.NoMemory error = (error ≡ NoMemory) × (new ≡ old)
Halts p old new place (stop.Refused why) error = Tells error (told p (refusal.Action place why)) × KeepsRefusal old new (refusal.Action place why) error
