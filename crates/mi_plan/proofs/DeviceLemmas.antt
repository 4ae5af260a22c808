-- Devices that are asked, call after call.
use Rattle.std.proofs.Common.{ℕ, ◌≤◌, arith, Ok, Err, refl, ◌∙◌}
use Rattle.std.specs.Prelude.{Result, OnOk}
use Rattle.mi_volume.specs.State.{State, Rose, Passes}
use Rattle.mi_volume.proofs.Moments.{then_passes, rose_before}
use Rattle.mi_source.specs.Paths.{Files}
use Rattle.mi_source.specs.Counts as source
use Rattle.mi_image.proofs.LookLemmas.{looks_first, looks_then}
use Rattle.mi_plan.specs.declared.error.WalkError.{WalkError}
use Rattle.mi_plan.specs.declared.error.WalkError.TheVariants as walk
use Rattle.mi_plan.specs.declared.error.PhaseError.{PhaseError}
use Rattle.mi_plan.specs.declared.error.PhaseError.TheVariants as phase
use Rattle.mi_plan.specs.Devices.{Asks, FailsOnly, PhaseFailsOnly}

-- nothing is asked
pub asks_none : (told : Type 0) (s : State) (files : Files) (n : ℕ) → Asks told s s files files n n
asks_none told s files n = record { files = refl; counts = omega arith; looks = λ t. looks_first s; passes = record { later = omega arith; faults = omega arith; capacity = refl } }

-- one call more
pub asks_then : (told : Type 0) (s t u : State) (had mid has : Files) (n k m : ℕ) → Asks told s t had mid n k → Asks told t u mid has k m → Asks told s u had has n m
asks_then told s t u had mid has n k m first second = record {
  files = second.files ∙ first.files;
  counts = omega (arith, first.counts, second.counts);
  looks = λ is. looks_then s t u (first.looks is) (second.looks is);
  passes = then_passes s t u first.passes second.passes;
}

source_then : (n k m : ℕ) → n ≤ k → source.Rose k m → source.Rose n m
source_then n k m le rose = record { rose = λ under. let more = rose.rose under in omega (arith, le, more) }

-- an error of a device in a later call
pub fails_then : (A B : Type 0) (s t u : State) (n k m : ℕ) (e : WalkError) → Passes s t → n ≤ k → FailsOnly {A = A} (Rose t u) (source.Rose k m) (Err e) → FailsOnly {A = B} (Rose s u) (source.Rose n m) (Err e)
fails_then A B s t u n k m walk.NoMemory passes le fails = tt
fails_then A B s t u n k m walk.Source passes le fails = source_then n k m le fails
fails_then A B s t u n k m walk.Volume passes le fails = rose_before s t u passes fails

-- where no device is asked none fails
pub fails_not : {A : Type 0} (v s : Type 0) (r : Result A WalkError) → FailsOnly ⊥ ⊥ r → FailsOnly v s r
fails_not v s (Ok x) fails = tt
fails_not v s (Err walk.NoMemory) fails = tt
fails_not v s (Err walk.Source) fails = absurd fails
fails_not v s (Err walk.Volume) fails = absurd fails

pub phase_fails_not : {A : Type 0} (v s : Type 0) (r : Result A PhaseError) → PhaseFailsOnly ⊥ ⊥ r → PhaseFailsOnly v s r
phase_fails_not v s (Ok x) fails = tt
phase_fails_not v s (Err phase.NoMemory) fails = tt
phase_fails_not v s (Err (phase.Fault fault)) fails = tt
phase_fails_not v s (Err phase.Source) fails = absurd fails
phase_fails_not v s (Err phase.Volume) fails = absurd fails

-- where it holds whatever was answered
pub on_ok : {T E P : Type 0} (r : Result T E) → P → OnOk r P
on_ok (Ok x) p = p
on_ok (Err e) p = tt
