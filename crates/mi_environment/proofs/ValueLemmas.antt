-- The Value of a row of Environment.
use Rattle.std.proofs.Common.{◌≡◌, ℕ, true, false, Option, Some, ap, ◌∙◌}
use Rattle.std.specs.Prelude.{codes, Result, Ok, Err, IfOk}
use Rattle.mi_text.specs.Lookups.{Lookups}
use Rattle.mi_base.specs.declared.answers.Fault.{Fault}
use Rattle.mi_base.specs.declared.answers.Fault.TheVariants.{BadEnvironment}
use Rattle.mi_schema.specs.declared.typed_rows.EnvironmentRow.{EnvironmentRow}
use Rattle.mi_schema.specs.TableRows.{Numbered}
use Rattle.mi_model.specs.Texts.{Text}
use Rattle.mi_model.specs.Refusals.{◌>>=◌, expanded, unless}
use Rattle.mi_model.specs.EnvironmentRows.{Form, is_bad_name, is_bad_form, refused_if, good_form, form_of, form_in, environment_form}

pub ok_so : {A E : Type 0} (P : Type 0) (r : Result A E) → P → IfOk r (λ a. P)
ok_so P (Ok a) is = is
ok_so P (Err e) is = tt

-- ---- forms

pub bad_text : (row : ℕ) (form : Form) → is_bad_form form ≡ true → good_form row form ≡ Err (BadEnvironment row)
bad_text row form is = ap (λ b. unless (refused_if b row) (Ok form)) is

pub right_text : (row : ℕ) (form : Form) → is_bad_form form ≡ false → good_form row form ≡ Ok form
right_text row form is = ap (λ b. unless (refused_if b row) (Ok form)) is

module _ (L : Lookups) (row : ℕ) (value : Text) where
  abbrev formed : Result Text Fault → Result Form Fault
  formed x = x >>= λ text. good_form row (form_of text)

  pub value_is : (text : Text) → expanded L (codes "Environment") row value ≡ Ok text → form_in L row (Some value) ≡ good_form row (form_of text)
  value_is text is = ap formed is

  pub value_none : (f : Fault) → expanded L (codes "Environment") row value ≡ Err f → form_in L row (Some value) ≡ Err f
  value_none f is = ap formed is

module _ (L : Lookups) (r : Numbered EnvironmentRow) where
  pub named_badly : is_bad_name r.row.name ≡ true → environment_form L r ≡ Err (BadEnvironment r.number)
  unfolding environment_form
  named_badly is = ap (λ b. unless (refused_if b r.number) (form_in L r.number r.row.value)) is

  pub named_well : (value : Option Text) → is_bad_name r.row.name ≡ false → r.row.value ≡ value → environment_form L r ≡ form_in L r.number value
  unfolding environment_form
  named_well value is has = ap (λ b. unless (refused_if b r.number) (form_in L r.number r.row.value)) is ∙ ap (form_in L r.number) has
