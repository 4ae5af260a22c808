-- InstallFiles as a phase.
use Rattle.std.proofs.Common.{◌≡◌, ℕ, ◌≤◌, List, [], map, Option, Some, None, refl, sym, ap, ◌∙◌, arith}
use Rattle.std.specs.Prelude.{Result, Ok, Err, OnOk, IsErrOf}
use Rattle.mi_text.specs.Maps.{Map}
use Rattle.mi_base.specs.declared.answers.Fault.{Fault}
use Rattle.mi_source.specs.Counts as source
use Rattle.mi_source.specs.Paths.{Files}
use Rattle.mi_volume.specs.State.{State, Passes}
use Rattle.mi_image.proofs.LookLemmas.{looks_first}
use Rattle.mi_model.specs.World.{World, RowEffect}
use Rattle.mi_model.specs.InstallFiles as model
use Rattle.mi_model.specs.InstallFiles.{all_placed, same_target, installed_row, installed_rows, install_files}
use Rattle.mi_model.specs.PhaseRows.{by_rows, phase_rows}
use Rattle.mi_model.specs.Refusals.{◌>>=◌, unless}
use Rattle.mi_steps.specs.declared.plan.Plan.{Plan}
use Rattle.mi_steps.specs.Makes.{plan_machine}
use Rattle.mi_records.specs.declared.error.PlanError.{PlanError}
use Rattle.mi_records.specs.declared.error.PlanError.TheVariants as planned
use Rattle.mi_records.specs.Stops.{TellsBy}
use Rattle.mi_records.proofs.PhaseLemmas.{phase_of}
use Rattle.mi_installs.specs.declared.error.InstallError.{InstallError}
use Rattle.mi_installs.specs.declared.error.InstallError.TheVariants as error
use Rattle.mi_installs.specs.Installs.{as_planned, as_install, InstallRows, InstallPhase}
use Rattle.mi_installs.specs.Reading.{Reads}

-- ---- the phase

effect_is : (w : World) (rows : List model.Placed) → all_placed w ≡ Ok rows → None ≡ same_target [] rows → install_files w ≡ Ok (map (installed_row w) rows)
unfolding install_files
effect_is w rows is none = ap (λ (r : Result (List model.Placed) Fault). r >>= installed_rows w) is ∙ ap (λ (o : Option Fault). unless o (Ok (map (installed_row w) rows))) (sym none)

effect_same : (w : World) (rows : List model.Placed) (f : Fault) → all_placed w ≡ Ok rows → Some f ≡ same_target [] rows → install_files w ≡ Err f
unfolding install_files
effect_same w rows f is same = ap (λ (r : Result (List model.Placed) Fault). r >>= installed_rows w) is ∙ ap (λ (o : Option Fault). unless o (Ok (map (installed_row w) rows))) (sym same)

effect_path : (w : World) (f : Fault) → all_placed w ≡ Err f → install_files w ≡ Err f
unfolding install_files
effect_path w f is = ap (λ (r : Result (List model.Placed) Fault). r >>= installed_rows w) is

refused_by : (w : World) (f : Fault) → install_files w ≡ Err f → phase_rows install_files w ≡ Err f
refused_by w f is = ap (λ (r : Result (List RowEffect) Fault). r >>= by_rows w.machine) is

module _ (held : Map (List ℕ)) (files : Files) (a b : Plan) (w : World) where
  -- all rows, carried out
  pub phase_done : {A : Type 0} (rows : List model.Placed) (r : Result A InstallError) → all_placed w ≡ Ok rows → None ≡ same_target [] rows → w.machine ≡ plan_machine held files a
      → InstallRows held files a b (map (installed_row w) rows) r → InstallPhase held files a b install_files w r
  phase_done rows r is none at done = phase_of held files a b install_files w (map (installed_row w) rows) (as_planned r) (effect_is w rows is none) at done

  -- two of them have one path
  pub phase_same : (A : Type 0) (rows : List model.Placed) (f : Fault) → all_placed w ≡ Ok rows → Some f ≡ same_target [] rows → InstallPhase held files a b {A = A} install_files w (Err (error.Fault f))
  phase_same A rows f is same = refused_by w f (effect_same w rows f is same)

  -- a path is refused
  pub phase_path : {A : Type 0} (C : Type 0) (seen : A → List model.Placed) (e : PlanError) → TellsBy {A = A} seen (all_placed w) (Err e) → InstallPhase held files a b {A = C} install_files w (Err (as_install e))
  phase_path C seen planned.NoMemory told = tt
  phase_path C seen (planned.Fault f) told = refused_by w f (effect_path w f told)

  -- deciding is refused by no row
  pub rows_fault_not : (A B : Type 0) (effects : List RowEffect) (e : InstallError) → ((f : Fault) → ¬ IsErrOf {T = A} (Err e) (error.Fault f)) → InstallRows held files a b {A = B} effects (Err e)
  rows_fault_not A B effects error.NoMemory none = tt
  rows_fault_not A B effects (error.Fault f) none = absurd (none f refl)
  rows_fault_not A B effects error.Source none = tt
  rows_fault_not A B effects error.Volume none = tt

-- ---- reads

pub passes_first : (s : State) → Passes s s
passes_first s = record { later = omega arith; faults = omega arith; capacity = refl }

pub reads_not : (told : Type 0) (s : State) (files : Files) (n : ℕ) → Reads told s s files files n n
reads_not told s files n = record { looks = λ t. looks_first s; passes = passes_first s; stays = refl; counts = omega arith }

-- the source is read on
pub reads_on : (told : Type 0) (s t : State) (files mid new : Files) (n m k : ℕ) → Reads told s t files mid n m → new ≡ mid → m ≤ k → Reads told s t files new n k
reads_on told s t files mid new n m k first stays counts = record { looks = first.looks; passes = first.passes; stays = stays ∙ first.stays; counts = let le = first.counts in omega arith }

pub rose_since : (before middle after : ℕ) → before ≤ middle → source.Rose middle after → source.Rose before after
rose_since before middle after le rose = record { rose = λ small. let above = rose.rose small in omega arith }

pub on_then : {A E : Type 0} (X Y : Type 0) (r : Result A E) → X → OnOk r (X → Y) → OnOk r Y
on_then X Y (Ok done) x then = then x
on_then X Y (Err e) x then = tt
