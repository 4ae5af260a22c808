-- What an answer says; want of memory alone is free.
use Rattle.std.specs.Prelude.{◌≡◌, ℕ, Result, Ok, Err}
use Rattle.mi_dirs.specs.declared.fault.DirFault.{DirFault}
use Rattle.mi_dirs.specs.declared.fault.DirFault.TheVariants.{Cycle, BadPath}
use Rattle.mi_dirs.specs.declared.fault.DirError.{DirError}
use Rattle.mi_dirs.specs.declared.fault.DirError.TheVariants as error
use Rattle.mi_dirs.specs.Faults.{row_number}

-- where the answer is a fault, this holds of it
abbrev pub IfFault : {X : Type 0} → Result X DirError → (DirFault → Type 0) → Type 0
IfFault (Ok x) P = Unit {0}
IfFault (Err error.NoMemory) P = Unit {0}
IfFault (Err (error.Fault f)) P = P f

-- the answer is exactly this value, or exactly this fault
abbrev pub Answers : {X : Type 0} → Result X DirError → Result X DirFault → Type 0
Answers (Ok x) answer = answer ≡ Ok x
Answers (Err error.NoMemory) answer = Unit {0}
Answers (Err (error.Fault f)) answer = answer ≡ Err f

-- where the fault is a cycle, this holds of its row, from 0
abbrev pub IfCycle : DirFault → (ℕ → Type 0) → Type 0
IfCycle (Cycle row) P = (at : ℕ) × (row ≡ row_number at) × P at
IfCycle (BadPath row) P = Unit {0}
