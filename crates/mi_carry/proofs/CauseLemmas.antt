-- Counts, and what licenses a stop.
use Rattle.std.proofs.Common.{◌≡◌, ◌≢◌, ℕ, zero, suc, ◌≤◌, ◌<◌, List, [], ◌∷◌, length, get_or, Err, IsErrOf, refl, sym, subst, arith}
use Rattle.mi_volume.specs.State.{State, Rose}
use Rattle.mi_source.specs.Counts as source
use Rattle.mi_runner.specs.declared.fault.RunFault.{RunFault}
use Rattle.mi_runner.specs.declared.fault.RunFault.TheVariants as run
use Rattle.mi_runner.specs.Faults.{IfDiffers}
use Rattle.mi_runner.specs.Records.{States}
use Rattle.mi_base.specs.declared.answers.Cause.{Cause}
use Rattle.mi_base.specs.declared.answers.Cause.TheVariants.{VolumeFault, SourceFault, Table}
use Rattle.mi_base.specs.declared.answers.Fault.TheVariants.{SizeDiffers}
use Rattle.mi_model.specs.Causes.{BelowCount}
use Rattle.mi_model.specs.Plans.{Planned}
use Rattle.mi_carry.specs.declared.stop.Stop.{Stop}
use Rattle.mi_carry.specs.declared.stop.Stop.TheVariants.{NoMemory, Refuse}
use Rattle.mi_carry.specs.Stops.{stop_of_run}
use Rattle.mi_carry.specs.Causes.{Differs, IsMet, IsMetStop}

-- ---- counts

-- a call that raised the count
pub raised : (s t : State) → s.faults ≤ t.faults → Rose s t → BelowCount s.faults t.faults
raised s t le rose = λ under. grind (arith, le, under, rose.rose)

pub source_raised : (n m : ℕ) → n ≤ m → source.Rose n m → BelowCount n m
source_raised n m le rose = λ under. grind (arith, le, under, rose.rose)

pub below_before : (n k m : ℕ) → n ≤ k → k ≤ m → BelowCount k m → BelowCount n m
below_before n k m le more below = λ under. grind (arith, le, more, under, below)

pub below_after : (n k m : ℕ) → n ≤ k → k ≤ m → BelowCount n k → BelowCount n m
below_after n k m le more below = λ under. let here = below under in omega (arith, here, more)

-- ---- causes

pub met_weaker : (differs differs' : List ℕ → ℕ → ℕ → Type 0) {volume volume' fails fails' : Type 0} (c : Cause) → ((file : List ℕ) (stated found : ℕ) → differs file stated found → differs' file stated found) → (volume → volume') → (fails → fails') → IsMet differs volume fails c → IsMet differs' volume' fails' c
met_weaker differs differs' VolumeFault d f g is = f is
met_weaker differs differs' SourceFault d f g is = g is
met_weaker differs differs' (Table (SizeDiffers file stated found)) d f g is = d file stated found is
met_weaker differs differs' other d f g is = absurd is

pub stop_weaker : (differs differs' : List ℕ → ℕ → ℕ → Type 0) {volume volume' fails fails' : Type 0} (why : Stop) → ((file : List ℕ) (stated found : ℕ) → differs file stated found → differs' file stated found) → (volume → volume') → (fails → fails') → IsMetStop differs volume fails why → IsMetStop differs' volume' fails' why
stop_weaker differs differs' NoMemory d f g is = tt
stop_weaker differs differs' (Refuse c) d f g is = met_weaker differs differs' c d f g is

-- a segment's fault, as a stop
pub run_stopped : {T : Type 0} (differs : List ℕ → ℕ → ℕ → Type 0) (room : Type 0) (s t : State) (n m : ℕ) (e : RunFault) → s.faults ≤ t.faults → n ≤ m → (IsErrOf {T = T} (Err e) run.Volume → Rose s t) → (IsErrOf {T = T} (Err e) run.Full → room → ⊥) → (IsErrOf {T = T} (Err e) run.Source → source.Rose n m)
    → IfDiffers e differs → IsMetStop differs (room → BelowCount s.faults t.faults) (BelowCount n m) (stop_of_run e)
run_stopped differs room s t n m run.NoMemory le more rose full source_rose other = tt
run_stopped differs room s t n m run.Source le more rose full source_rose other = source_raised n m more (source_rose refl)
run_stopped differs room s t n m run.Volume le more rose full source_rose other = λ is. raised s t le (rose refl)
run_stopped differs room s t n m run.Full le more rose full source_rose other = λ is. absurd (full refl is)
run_stopped differs room s t n m (run.SizeDiffers file stated found) le more rose full source_rose other = other

-- the length that differs is one of this segment
pub one_differs : (told : Type 0) (p : Planned) (e : RunFault) → (told → IfDiffers e (λ file stated found. ⊥)) → IfDiffers e (λ file stated found. found ≢ stated) → IfDiffers e (λ file stated found. States p.records file stated) → IfDiffers e (Differs told (p ∷ []))
one_differs told p run.NoMemory untold other states = tt
one_differs told p run.Source untold other states = tt
one_differs told p run.Volume untold other states = tt
one_differs told p run.Full untold other states = tt
one_differs told p (run.SizeDiffers file stated found) untold other states = record { untold = untold; other = other; segment = p; among = (0, omega arith, refl); states = states }

-- and of those among which it is
pub differs_among : (told : Type 0) (parts : List Planned) (k : ℕ) (p : Planned) → k < length parts → p ≡ get_or parts k p → (file : List ℕ) (stated found : ℕ) → Differs told (p ∷ []) file stated found → Differs told parts file stated found
differs_among told parts k p below is file stated found d = record {
  untold = d.untold;
  other = d.other;
  segment = p;
  among = (k, below, sym is);
  states = subst (λ (s : Planned). States s.records file stated) (sym (only d.among.0 d.segment d.among.1 d.among.2)) d.states;
}
  where
    only : (j : ℕ) (x : Planned) → j < 1 → get_or (p ∷ []) j x ≡ x → p ≡ x
    only zero x less at = at
    only (suc j) x less at = absurd (omega arith)
