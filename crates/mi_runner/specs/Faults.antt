-- Faults of the area and of the source as faults of a segment. (This project's own.)
use Rattle.std.specs.Prelude.{◌≡◌, ℕ, List}
use Rattle.mi_source.specs.declared.fault.SrcFault.{SrcFault}
use Rattle.mi_source.specs.declared.fault.SrcFault.TheVariants as src
use Rattle.mi_undo.specs.declared.fault.OpFault.{OpFault}
use Rattle.mi_undo.specs.declared.fault.OpFault.TheVariants as op
use Rattle.mi_runner.specs.declared.fault.RunFault.{RunFault}
use Rattle.mi_runner.specs.declared.fault.RunFault.TheVariants.{NoMemory, Source, Volume, Full, SizeDiffers}

abbrev pub run_fault_of : OpFault → RunFault
run_fault_of op.NoMemory = NoMemory
run_fault_of op.Fault = Volume
run_fault_of op.Full = Full

abbrev pub read_fault_of : SrcFault → RunFault
read_fault_of src.NoMemory = NoMemory
read_fault_of src.Failed = Source

-- why a file's size is refused, if it isn't want of memory
abbrev pub IsSizeFault : List ℕ → ℕ → ℕ → RunFault → Type 0
IsSizeFault key n m NoMemory = Unit {0}
IsSizeFault key n m Source = ⊥
IsSizeFault key n m Volume = ⊥
IsSizeFault key n m Full = ⊥
IsSizeFault key n m (SizeDiffers file stated found) = (file ≡ key) × (stated ≡ n) × (found ≡ m)

-- the key of the file whose length differs, and both lengths
abbrev pub IfDiffers : RunFault → (List ℕ → ℕ → ℕ → Type 0) → Type 0
IfDiffers NoMemory P = Unit {0}
IfDiffers Source P = Unit {0}
IfDiffers Volume P = Unit {0}
IfDiffers Full P = Unit {0}
IfDiffers (SizeDiffers file stated found) P = P file stated found
