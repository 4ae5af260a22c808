-- Entries of rows that are small enough.
use Rattle.std.proofs.Common.{◌≡◌, ℕ, Bool, true, false, cond, ◌||◌, List, [], ◌∷◌, Some, None, refl, sym, ap, subst, ◌∙◌}
use Rattle.std.specs.Prelude.{Ok, Err}
use Rattle.mi_text.specs.Maps.{Map}
use Rattle.mi_base.specs.declared.entry.Entry.{Entry}
use Rattle.mi_base.specs.declared.answers.Fault.TheVariants as faults
use Rattle.mi_base.specs.Limits.{fits}
use Rattle.mi_base.specs.Spelling.{name_of}
use Rattle.mi_source.specs.Paths.{Files}
use Rattle.mi_model.specs.Texts.{Text}
use Rattle.mi_model.specs.Refusals.{size_fault}
use Rattle.mi_steps.specs.declared.plan.Plan.{Plan}
use Rattle.mi_steps.specs.Follows.{put_touch}
use Rattle.mi_steps.specs.Makes.{Makes}
use Rattle.mi_records.specs.declared.error.PlanError.{PlanError}
use Rattle.mi_records.specs.declared.error.PlanError.TheVariants as error
use Rattle.mi_records.specs.declared.stop.Stop.{Stop}
use Rattle.mi_records.specs.declared.stop.Stop.TheVariants.{NoMemory, Refused}
use Rattle.mi_records.specs.Stops.{fault_of, IsRefusal}
use Rattle.mi_records.specs.Values.{is_too_large, KeepsSize}
use Rattle.mi_records.proofs.SizeLemmas.{fits_unless_large}
use Rattle.mi_row_steps.specs.Sizes.{IsSmall, IsSized, Put}

small_is : (table : Text) (row : ℕ) (e : Entry) → is_too_large e ≡ false → size_fault table row e ≡ None
unfolding size_fault
small_is table row e small = ap (λ b. cond b (Some (faults.BadValue table row)) None) small

large_is : (table : Text) (row : ℕ) (e : Entry) → is_too_large e ≡ true → size_fault table row e ≡ Some (faults.BadValue table row)
unfolding size_fault
large_is table row e large = ap (λ b. cond b (Some (faults.BadValue table row)) None) large

pub sized_ok : (table : Text) (row : ℕ) (e same : Entry) → (fits e ≡ false → is_too_large e ≡ true) → KeepsSize e (Ok same) → IsSized table row e (Ok same)
sized_ok table row e same large size = record {
  is = size.0;
  small = small_is table row e size.1;
  right = fits_unless_large e large size.1;
}

pub sized_err : (table : Text) (row : ℕ) (e : Entry) (stop : Stop) (error : PlanError) → KeepsSize e (Err stop) → IsRefusal table row stop error → IsSized table row e (Err error)
sized_err table row e stop error.NoMemory size refusal = tt
sized_err table row e NoMemory (error.Fault f) size refusal = absurd refusal
sized_err table row e (Refused why) (error.Fault f) size refusal = large_is table row e size.1 ∙ ap Some (sym (refusal ∙ ap (fault_of table row) size.0))

-- an entry that was put, as it is or as the same one
module _ (held : Map (List ℕ)) (files : Files) (a b : Plan) (table : Text) (row : ℕ) (e : Entry) where
  pub put_small : (same : Entry) → IsSmall table row e same → Makes held files a b (put_touch (name_of same) same ∷ []) → Put {A = Unit {0}} held files a b table row e (Ok tt)
  put_small same small made = (small.small, subst (λ (x : Entry). Makes held files a b (put_touch (name_of x) x ∷ [])) small.is made)

  pub put_refused : (error : PlanError) → IsSized table row e (Err error) → Put {A = Unit {0}} held files a b table row e (Err error)
  put_refused error.NoMemory is = tt
  put_refused (error.Fault f) is = is

-- ---- entries that have no record, which are too large

pub or_first : (a b : Bool) → a ≡ true → (a || b) ≡ true
or_first true b e = refl
or_first false b e = cc
