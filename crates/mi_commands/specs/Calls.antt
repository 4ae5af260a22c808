-- Why a package isn't walked over.
use Rattle.std.specs.Prelude.{◌≡◌, ℕ, Bool, true, false, not, ◌&&◌, List, ◌++◌, map, Option, None, Some, Result, Ok, Err}
use Rattle.mi_text.specs.Maps.{Name}
use Rattle.mi_source.specs.Paths.{Files}
use Rattle.mi_base.specs.declared.answers.Cause.{Cause}
use Rattle.mi_base.specs.declared.answers.Cause.TheVariants.{VolumeFault, SourceFault, Table, UnknownProduct}
use Rattle.mi_rows.specs.declared.error.LoadError.{LoadError}
use Rattle.mi_rows.specs.declared.error.LoadError.TheVariants as load
use Rattle.mi_plan.specs.declared.planned.WalkPlan.{WalkPlan}
use Rattle.mi_plan.specs.Made.{as_planned}
use Rattle.mi_model.specs.Planning.{IsPlan}
use Rattle.mi_model.specs.Plans.{Planned}
use Rattle.mi_model.specs.Plain.{ArePlain}
use Rattle.mi_model.specs.Cost.{all_rows}
use Rattle.mi_model.specs.World.{Given}
use Rattle.mi_model.specs.Walk.{walk}
use Rattle.mi_model.specs.PackageOutcome.{Outcome, Refused, only, of_walk}
use Rattle.mi_words.specs.declared.command.PackageWords.{PackageWords}
use Rattle.mi_words.specs.Asked.{of_words, set_by}
use Rattle.mi_schema.specs.declared.package.Package.{Package}
use Rattle.mi_schema.specs.RowsOf.{rows_in}
use Rattle.mi_base.specs.Machine.{Machine}
use Rattle.mi_model.specs.Assignments.{Assigned}
use Rattle.mi_text.specs.PropertyNames.{is_public_name}
use Rattle.mi_props.specs.Props.{Values, all_names}
use Rattle.mi_model.specs.Properties.{first_properties}
use Rattle.mi_model.specs.Settings.{is_recorded}
use Rattle.mi_schema.specs.TableRows.{product_code}
use Rattle.mi_commands.specs.declared.stop.Stop.{Stop}
use Rattle.mi_commands.specs.declared.stop.Stop.TheVariants.{NoMemory, Refuse}

-- the stop of a package that isn't loaded
abbrev pub stop_of : LoadError → Stop
stop_of load.NoMemory = NoMemory
stop_of load.Source = Refuse SourceFault
stop_of (load.Table fault) = Refuse (Table fault)

-- exactly this cause, or none; want of memory alone is free
abbrev pub Judges : {T : Type 0} → Option Cause → Result T Stop → Type 0
Judges cause (Ok x) = cause ≡ None
Judges cause (Err NoMemory) = Unit {0}
Judges cause (Err (Refuse found)) = cause ≡ Some found

-- a refusal of this cause, or want of memory
abbrev pub Refuses : Cause → Stop → Type 0
Refuses cause NoMemory = Unit {0}
Refuses cause (Refuse found) = found ≡ cause

-- where the product has to be recorded and isn't
abbrev pub unknown_product : Bool → ℕ → Option Cause
unknown_product true code = Some (UnknownProduct (record { number = code }))
unknown_product false code = None

-- ---- up to the walk

-- the properties that a package is run with
abbrev pub sets_of : PackageWords → Assigned
sets_of asked = of_words asked.words ++ set_by asked.sets

-- they are public
abbrev pub ArePublic : PackageWords → Type 0
ArePublic asked = all_names is_public_name (sets_of asked) ≡ true

-- a walk is over this package, this former machine, these words, and this moment
pub record IsOver (g : Given) (loaded : Package) (m : Machine) (asked : PackageWords) (now : ℕ) : Type 0 where
  pub rows : rows_in loaded ≡ g.rows
  pub former : m ≡ g.former
  pub folder : asked.folder.now ≡ g.folder
  pub words : sets_of asked ≡ g.words
  pub moment : now ≡ g.now

-- why a package isn't walked over: the outcome is that refusal alone, or a device failed; `source` says that the source is told
abbrev pub CausedStop : Type 0 → Type 0 → Type 0 → Outcome → Stop → Type 0
CausedStop source volume_fails source_fails out NoMemory = Unit {0}
CausedStop source volume_fails source_fails out (Refuse VolumeFault) = volume_fails
CausedStop source volume_fails source_fails out (Refuse SourceFault) = source_fails
CausedStop source volume_fails source_fails out (Refuse (Table fault)) = source → out ≡ only (Refused (Table fault))
CausedStop source volume_fails source_fails out (Refuse (UnknownProduct code)) = source → out ≡ only (Refused (UnknownProduct code))
CausedStop source volume_fails source_fails out (Refuse other) = ⊥

-- the whole walk is planned, by these begun actions, segments and refusal, no row of it changes a name twice, and the outcome is its own where
-- so much room is free
pub record IsCosted (files : Files) (free : Option ℕ) (g : Given) (out : Outcome) (names : List Name) (plans : List Planned) (refusal : Option Cause) : Type 0 where
  pub is : out ≡ of_walk free (walk g)
  pub plain : ArePlain g.former (all_rows (walk g).parts)
  pub whole : IsPlan files (walk g) names plans refusal

-- the same of a plan
abbrev pub IsPlanned : Files → Option ℕ → Given → Outcome → WalkPlan → Type 0
IsPlanned files free g out plan = IsCosted files free g out plan.begun.items (map as_planned plan.segments.items) plan.refusal

-- `told` says that both devices are told
abbrev pub Prepares : Type 0 → Type 0 → Type 0 → Type 0 → Files → Option ℕ → Given → Outcome → Result WalkPlan Stop → Type 0
Prepares told source volume_fails source_fails files free g out (Ok plan) = told → IsPlanned files free g out plan
Prepares told source volume_fails source_fails files free g out (Err stop) = CausedStop source volume_fails source_fails out stop

-- ---- a loaded package

-- why a package isn't walked over, in the order in which that is asked
abbrev pub first_cause : Bool → Given → Option Cause
first_cause recorded g = unknown_product (recorded && not (is_recorded g.rows g.former)) (product_code g.rows)

-- the properties before any action, or exactly that cause; want of memory alone is free
abbrev pub Readies : Bool → Given → Result Values Stop → Type 0
Readies recorded g (Ok props) = (first_cause recorded g ≡ None) × (props ≡ first_properties g)
Readies recorded g (Err NoMemory) = Unit {0}
Readies recorded g (Err (Refuse cause)) = first_cause recorded g ≡ Some cause

-- a device failed; want of memory is free
abbrev pub FailsBy : Type 0 → Type 0 → Stop → Type 0
FailsBy volume_fails source_fails NoMemory = Unit {0}
FailsBy volume_fails source_fails (Refuse VolumeFault) = volume_fails
FailsBy volume_fails source_fails (Refuse SourceFault) = source_fails
FailsBy volume_fails source_fails (Refuse other) = ⊥

-- a walk over the package, or exactly that cause, or a device failed
abbrev pub Walks : Type 0 → Type 0 → Bool → Given → Result WalkPlan Stop → Type 0
Walks volume_fails source_fails recorded g (Ok plan) = first_cause recorded g ≡ None
Walks volume_fails source_fails recorded g (Err NoMemory) = Unit {0}
Walks volume_fails source_fails recorded g (Err (Refuse VolumeFault)) = volume_fails
Walks volume_fails source_fails recorded g (Err (Refuse SourceFault)) = source_fails
Walks volume_fails source_fails recorded g (Err (Refuse cause)) = first_cause recorded g ≡ Some cause
