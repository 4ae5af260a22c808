-- The answer after going back.
use Rattle.std.proofs.Common.{inl, inr, ℕ, ◌≤◌, Result, Ok, Err, IsErrOf, refl}
use Rattle.mi_volume.specs.Maps.{Map}
use Rattle.mi_volume.specs.State.{State, Rose}
use Rattle.mi_undo.specs.Answers.{GoesBack}
use Rattle.mi_undo.specs.declared.fault.BackFault.{BackFault}
use Rattle.mi_undo.specs.declared.fault.BackFault.TheVariants as back
use Rattle.mi_carry.specs.declared.stop.Stop.{Stop}
use Rattle.mi_carry.specs.declared.stop.Stop.TheVariants.{NoMemory, Refuse}
use Rattle.mi_carry.specs.Falls.{Falls, AnswersStop, fell, gone, stuck}
use Rattle.mi_carry.proofs.CauseLemmas.{raised}

pub answers : {T : Type 0} (room : Type 0) (r : Result T BackFault) (why : Stop) (first : ℕ) (s t : State) → s.faults ≤ t.faults → (IsErrOf r back.Fault → Rose s t) → (IsErrOf r back.Full → room → ⊥) → AnswersStop room why first s.faults t.faults (fell r why first s.faults)
answers room (Ok x) why first s t le fault full = inl refl
answers room (Err back.NoMemory) why first s t le fault full = inr (inl refl)
answers room (Err back.Fault) why first s t le fault full = inr (inr (refl, λ is. raised s t le (fault refl)))
answers room (Err back.Full) why first s t le fault full = inr (inr (refl, λ is. absurd (full refl is)))

module _ (s t : State) (F : Map) where
  fallen_stuck : {T : Type 0} (why : Stop) (first again : ℕ) (e : BackFault) → GoesBack {T = T} s t F (Err e) → Falls s t F (stuck why first again)
  fallen_stuck NoMemory first again e went = record { goes = went.goes; leaves = went.leaves; reads = tt; cleans = tt }
  fallen_stuck (Refuse cause) first again e went = record { goes = went.goes; leaves = went.leaves; reads = tt; cleans = tt }

  fallen_gone : {T : Type 0} (why : Stop) (x : T) → GoesBack {E = BackFault} s t F (Ok x) → Falls s t F (gone why)
  fallen_gone NoMemory x went = record { goes = went.goes; leaves = went.leaves; reads = tt; cleans = tt }
  fallen_gone (Refuse cause) x went = record { goes = went.goes; leaves = went.leaves; reads = went.outside; cleans = went.free }

  pub fallen : {T : Type 0} (r : Result T BackFault) (why : Stop) (first again : ℕ) → GoesBack s t F r → Falls s t F (fell r why first again)
  fallen (Ok x) why first again went = fallen_gone why x went
  fallen (Err back.NoMemory) why first again went = record { goes = went.goes; leaves = went.leaves; reads = tt; cleans = tt }
  fallen (Err back.Fault) why first again went = fallen_stuck why first again back.Fault went
  fallen (Err back.Full) why first again went = fallen_stuck why first again back.Full went
