-- Entries of rows that are small enough, and how they are put. (This project's own.)
use Rattle.std.specs.Prelude.{◌≡◌, ℕ, true, List, [], ◌∷◌, Some, None, Result, Ok, Err}
use Rattle.mi_text.specs.Maps.{Map}
use Rattle.mi_base.specs.declared.entry.Entry.{Entry}
use Rattle.mi_base.specs.Limits.{fits}
use Rattle.mi_base.specs.Spelling.{name_of}
use Rattle.mi_source.specs.Paths.{Files}
use Rattle.mi_model.specs.Texts.{Text}
use Rattle.mi_model.specs.Refusals.{size_fault}
use Rattle.mi_steps.specs.declared.plan.Plan.{Plan}
use Rattle.mi_steps.specs.Follows.{put_touch}
use Rattle.mi_steps.specs.Makes.{Makes}
use Rattle.mi_records.specs.declared.error.PlanError.{PlanError}
use Rattle.mi_records.specs.declared.error.PlanError.TheVariants as error

-- the entry, which no size refuses and which has a record
pub record IsSmall (table : Text) (row : ℕ) (e same : Entry) : Type 0 where
  pub is : same ≡ e
  pub small : size_fault table row e ≡ None
  pub right : fits e ≡ true

-- the program's answer is this entry of a row of a table, or that it is too large
abbrev pub IsSized : Text → ℕ → Entry → Result Entry PlanError → Type 0
IsSized table row e (Ok same) = IsSmall table row e same
IsSized table row e (Err error.NoMemory) = Unit {0}
IsSized table row e (Err (error.Fault f)) = size_fault table row e ≡ Some f

-- the entry of a row was put, or is too large
abbrev pub Put : {A : Type 0} → Map (List ℕ) → Files → Plan → Plan → Text → ℕ → Entry → Result A PlanError → Type 0
Put held files before after table row e (Ok done) = (size_fault table row e ≡ None) × Makes held files before after (put_touch (name_of e) e ∷ [])
Put held files before after table row e (Err error.NoMemory) = Unit {0}
Put held files before after table row e (Err (error.Fault f)) = size_fault table row e ≡ Some f
