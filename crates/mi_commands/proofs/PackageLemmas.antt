-- A package up to its walk.
use Rattle.std.proofs.Common.{◌≡◌, ℕ, Bool, true, false, map, Option, Some, None, Result, Ok, Err, refl, sym, ap, ◌∙◌, subst}
use Rattle.std.specs.Prelude.{◌&&◌, not, is_some, IfOk, IfErr, OnOk, if◌then◌else◌}
use Rattle.mi_text.specs.Maps.{Name, Map}
use Rattle.std.specs.Prelude.{List}
use Rattle.mi_image.specs.Items.{Items, machine_over, AreThere as HasContents}
use Rattle.mi_schema.specs.declared.package.Package.{Package}
use Rattle.mi_words.specs.declared.command.PackageWords.{PackageWords}
use Rattle.mi_commands.specs.Walks.{AreThere}
use Rattle.mi_source.specs.Paths.{Files}
use Rattle.mi_base.specs.Machine.{Machine, product_at}
use Rattle.mi_base.specs.declared.answers.Fault.{Fault}
use Rattle.mi_base.specs.declared.answers.Cause.{Cause}
use Rattle.mi_base.specs.declared.answers.Cause.TheVariants.{VolumeFault, SourceFault, Table, UnknownProduct}
use Rattle.mi_schema.specs.Checks.{load_fault}
use Rattle.mi_schema.specs.TableRows.{Rows, product_code}
use Rattle.mi_plan.specs.declared.planned.WalkPlan.{WalkPlan}
use Rattle.mi_plan.specs.Made.{as_planned}
use Rattle.mi_text.specs.declared.guid.Guid.{Guid}
use Rattle.mi_base.specs.declared.entry.Product.{Product}
use Rattle.mi_props.specs.Props.{Values}
use Rattle.mi_model.specs.Properties.{first_properties}
use Rattle.mi_model.specs.World.{Given}
use Rattle.mi_model.specs.Walk.{walk}
use Rattle.mi_model.specs.Assignments.{Assigned}
use Rattle.mi_model.specs.Cost.{all_rows}
use Rattle.mi_model.specs.Plain.{ArePlain}
use Rattle.mi_model.specs.Planning.{IsPlan}
use Rattle.mi_model.specs.PackageOutcome.{Outcome, Refused, only, of_walk, of_given, of_loaded, given_of, of_package}
use Rattle.mi_model.specs.Settings.{is_recorded}
use Rattle.mi_commands.specs.declared.stop.Stop.{Stop}
use Rattle.mi_commands.specs.declared.stop.Stop.TheVariants.{NoMemory, Refuse}
use Rattle.mi_commands.specs.Calls.{CausedStop, FailsBy, IsOver, Judges, Prepares, Readies, Walks, first_cause, unknown_product}

-- ---- why a loaded package isn't walked over

-- which causes there are
abbrev pub IsFirst : Cause → Type 0
IsFirst (Table fault) = Unit {0}
IsFirst (UnknownProduct x) = Unit {0}
IsFirst other = ⊥

abbrev AreFirst : Option Cause → Type 0
AreFirst None = Unit {0}
AreFirst (Some cause) = IsFirst cause

module _ (recorded : Bool) (g : Given) where
  abbrev unrecorded : Bool
  unrecorded = recorded && not (is_recorded g.rows g.former)

  abbrev own_code : ℕ
  own_code = product_code g.rows

  recorded_so : (b : Bool) (n : ℕ) → unknown_product b n ≡ None → b ≡ false
  recorded_so true n is = absurd cc
  recorded_so false n is = refl

  -- where so much room is free
  module _ (free : Option ℕ) where
    -- what a package that is loaded comes to
    abbrev pub loaded_out : Outcome
    loaded_out = of_given free recorded g

    of_product : (b : Bool) → unrecorded ≡ b → of_given free recorded g ≡ (if b then only (Refused (UnknownProduct (record { number = own_code }))) else of_walk free (walk g))
    of_product b is = ap (λ (x : Bool). if x then only (Refused (UnknownProduct (record { number = own_code }))) else of_walk free (walk g)) is

    pub walks_on : first_cause recorded g ≡ None → loaded_out ≡ of_walk free (walk g)
    walks_on is = of_product false (recorded_so unrecorded own_code is)

    by_product : (b : Bool) (cause : Cause) → unrecorded ≡ b → unknown_product b own_code ≡ Some cause → of_given free recorded g ≡ only (Refused cause)
    by_product true cause is some = let same : UnknownProduct (record { number = own_code }) ≡ cause = cc in of_product true is ∙ ap (λ (c : Cause). only (Refused c)) same
    by_product false cause is some = absurd cc

    pub refused_so : (cause : Cause) → first_cause recorded g ≡ Some cause → loaded_out ≡ only (Refused cause)
    refused_so cause is = by_product unrecorded cause refl is

  first_product : (b : Bool) (n : ℕ) → AreFirst (unknown_product b n)
  first_product true n = tt
  first_product false n = tt

  pub is_first : (cause : Cause) → first_cause recorded g ≡ Some cause → IsFirst cause
  is_first cause is = subst AreFirst is (first_product unrecorded own_code)

  -- ---- step by step

  pub walks_by : (volume_fails source_fails : Type 0) (r : Result WalkPlan Stop) → first_cause recorded g ≡ None → IfErr r (FailsBy volume_fails source_fails) → Walks volume_fails source_fails recorded g r
  walks_by volume_fails source_fails (Ok plan) none fails = none
  walks_by volume_fails source_fails (Err NoMemory) none fails = tt
  walks_by volume_fails source_fails (Err (Refuse VolumeFault)) none fails = fails
  walks_by volume_fails source_fails (Err (Refuse SourceFault)) none fails = fails
  walks_by volume_fails source_fails (Err (Refuse other)) none fails = absurd fails

  pub stopped_by : (volume_fails source_fails : Type 0) (e : Stop) → Readies recorded g (Err e) → Walks volume_fails source_fails recorded g (Err e)
  stopped_by volume_fails source_fails NoMemory is = tt
  stopped_by volume_fails source_fails (Refuse VolumeFault) is = absurd (is_first VolumeFault is)
  stopped_by volume_fails source_fails (Refuse SourceFault) is = absurd (is_first SourceFault is)
  stopped_by volume_fails source_fails (Refuse other) is = is

  -- the source failed in a later step
  pub walks_on_fails : (volume_fails x y : Type 0) → (x → y) → (r : Result WalkPlan Stop) → Walks volume_fails x recorded g r → Walks volume_fails y recorded g r
  walks_on_fails volume_fails x y f (Ok plan) is = is
  walks_on_fails volume_fails x y f (Err NoMemory) is = tt
  walks_on_fails volume_fails x y f (Err (Refuse VolumeFault)) is = is
  walks_on_fails volume_fails x y f (Err (Refuse SourceFault)) is = f is
  walks_on_fails volume_fails x y f (Err (Refuse other)) is = is

  pub ready_by : (r : Result Values Stop) → first_cause recorded g ≡ None → IfOk r (λ (p : Values). p ≡ first_properties g) → IfErr r (λ (e : Stop). e ≡ NoMemory) → Readies recorded g r
  ready_by (Ok props) none is stops = (none, is)
  ready_by (Err NoMemory) none is stops = tt
  ready_by (Err (Refuse cause)) none is stops = let clash : Refuse cause ≡ NoMemory = stops in absurd cc

  -- of the same rows and machine
  module _ (rows : Rows) (m : Machine) (same : rows ≡ g.rows) (former : m ≡ g.former) where
    abbrev unknown_of : Rows → Machine → Option Cause
    unknown_of x n = unknown_product (recorded && not (is_recorded x n)) (product_code x)

    cause_is : unknown_of rows m ≡ first_cause recorded g
    cause_is = ap (λ (x : Rows). unknown_of x m) same ∙ ap (λ (n : Machine). unknown_of g.rows n) former

    pub none_so : unknown_of rows m ≡ None → first_cause recorded g ≡ None
    none_so found = sym cause_is ∙ found

    pub unknown_so : (e : Stop) → Judges {T = Unit {0}} (unknown_of rows m) (Err e) → Readies recorded g (Err e)
    unknown_so NoMemory is = tt
    unknown_so (Refuse cause) is = sym cause_is ∙ is

-- ---- a product that has to be recorded

and_false : (r b : Bool) → b ≡ true → (r && not b) ≡ false
and_false true b is = ap not is
and_false false b is = refl

and_true : (r b : Bool) → r ≡ true → b ≡ false → (r && not b) ≡ true
and_true true b is isnt = ap not isnt
and_true false b is isnt = absurd cc

pub known_so : (recorded : Bool) (rows : Rows) (m : Machine) (code : ℕ) (o : Option Product) → code ≡ product_code rows → o ≡ product_at m code → is_some o ≡ true → unknown_product (recorded && not (is_recorded rows m)) (product_code rows) ≡ None
unfolding is_recorded
known_so recorded rows m code o is at some =
    let here : is_some (product_at m (product_code rows)) ≡ true = ap (λ (n : ℕ). is_some (product_at m n)) (sym is) ∙ ap is_some (sym at) ∙ some in
    ap (λ (b : Bool). unknown_product b (product_code rows)) (and_false recorded (is_some (product_at m (product_code rows))) here)

pub missing_so : (recorded : Bool) (rows : Rows) (m : Machine) (code : Guid) (o : Option Product) → recorded ≡ true → code.number ≡ product_code rows → o ≡ product_at m code.number → is_some o ≡ false → unknown_product (recorded && not (is_recorded rows m)) (product_code rows) ≡ Some (UnknownProduct code)
unfolding is_recorded
missing_so recorded rows m code o asks is at none =
    let here : is_some (product_at m (product_code rows)) ≡ false = ap (λ (n : ℕ). is_some (product_at m n)) (sym is) ∙ ap is_some (sym at) ∙ none in
    ap (λ (b : Bool). unknown_product b (product_code rows)) (and_true recorded (is_some (product_at m (product_code rows))) asks here)
    ∙ ap (λ (n : ℕ). unknown_product true n) (sym is)

pub on_ok : {T E P : Type 0} (r : Result T E) → P → OnOk r P
on_ok (Ok x) p = p
on_ok (Err e) p = tt

-- ---- from the source

module _ (told source volume_fails source_fails : Type 0) (free : Option ℕ) (files : Files) (folder : Name) (sets : Assigned) (m : Machine) (now : ℕ) (recorded : Bool) where
  abbrev pub given : Given
  given = given_of files folder sets m now

  abbrev pub package_out : Outcome
  package_out = of_package files free now m recorded folder sets

  loaded_so : load_fault files folder ≡ None → package_out ≡ loaded_out recorded given free
  loaded_so none = ap (λ (o : Option Fault). of_loaded o (loaded_out recorded given free)) none

  abbrev IsLoaded : Result WalkPlan Stop → Type 0
  IsLoaded r = source → (load_fault files folder ≡ None) × Walks volume_fails source_fails recorded given r

  refused : (untold : Given) (cause : Cause) → Walks volume_fails source_fails recorded untold (Err (Refuse cause)) → IsLoaded (Err (Refuse cause)) → CausedStop source volume_fails source_fails package_out (Refuse cause)
  refused untold VolumeFault w loaded = w
  refused untold SourceFault w loaded = w
  refused untold (Table fault) w loaded = λ s. let x = loaded s in loaded_so x.0 ∙ refused_so recorded given free (Table fault) x.1
  refused untold (UnknownProduct code) w loaded = λ s. let x = loaded s in loaded_so x.0 ∙ refused_so recorded given free (UnknownProduct code) x.1
  refused untold other w loaded = absurd (is_first recorded untold other w)

  pub prepared : (untold : Given) (r : Result WalkPlan Stop) → Walks volume_fails source_fails recorded untold r → IsLoaded r → (told → source)
      → (told → ArePlain given.former (all_rows (walk given).parts)) → (told → IfOk r (λ (p : WalkPlan). IsPlan files (walk given) p.begun.items (map as_planned p.segments.items) p.refusal)) → Prepares told source volume_fails source_fails files free given package_out r
  prepared untold (Ok plan) w loaded of plain planned = λ t. let x = loaded (of t) in record { is = loaded_so x.0 ∙ walks_on recorded given free x.1; plain = plain t; whole = planned t }
  prepared untold (Err NoMemory) w loaded of plain planned = tt
  prepared untold (Err (Refuse cause)) w loaded of plain planned = refused untold cause w loaded

-- ---- over the source as it was before the package was loaded

-- the plan of a walk over this
abbrev HasPlan : Files → Files → Map (List ℕ) → Items → Given → Package → PackageWords → ℕ → Result WalkPlan Stop → Type 0
HasPlan files handed held image g loaded asked now r = g.files ≡ handed → HasContents held files image → IsOver g loaded (machine_over held files image) asked now
    → IfOk r (λ (p : WalkPlan). IsPlan files (walk g) p.begun.items (map as_planned p.segments.items) p.refusal)

pub planned_over : (files files' : Files) (r : Result WalkPlan Stop) (held : Map (List ℕ)) (image : Items) (g : Given) (loaded : Package) (asked : PackageWords) (now : ℕ) → files' ≡ files → HasPlan files' files' held image g loaded asked now r
    → HasPlan files files held image g loaded asked now r
planned_over files files' r held image g loaded asked now same plan = subst (λ (x : Files). HasPlan x x held image g loaded asked now r) same plan

pub lengths_over : (files files' : Files) (r : Result WalkPlan Stop) → files' ≡ files → IfOk r (λ (p : WalkPlan). AreThere files' p) → IfOk r (λ (p : WalkPlan). AreThere files p)
lengths_over files files' r same is = subst (λ (x : Files). IfOk r (λ (p : WalkPlan). AreThere x p)) same is
