-- What rows mean, and how their refusals go on.
use Rattle.std.proofs.Common.{◌≡◌, ℕ, Option, Some, sym, ap, ◌∙◌}
use Rattle.std.specs.Prelude.{codes, Result, Ok, Err}
use Rattle.mi_text.specs.Lookups.{Lookups}
use Rattle.mi_base.specs.declared.answers.Fault.{Fault}
use Rattle.mi_schema.specs.declared.typed_rows.RegistryRow.{RegistryRow}
use Rattle.mi_schema.specs.TableRows.{Numbered}
use Rattle.mi_model.specs.Texts.{Text}
use Rattle.mi_model.specs.Refusals.{◌>>=◌, expanded}
use Rattle.mi_model.specs.RegistryRows as model
use Rattle.mi_model.specs.RegistryRows.{RegistryPlace, RegistryMeaning, registry_place, registry_meaning, said}
use Rattle.mi_records.specs.declared.error.PlanError.{PlanError}
use Rattle.mi_records.specs.declared.error.PlanError.TheVariants as error
use Rattle.mi_records.specs.declared.stop.Stop.{Stop}
use Rattle.mi_records.specs.declared.stop.Stop.TheVariants.{NoMemory, Refused}
use Rattle.mi_records.specs.Stops.{fault_of, IsRefusal, AnswersBy, TellsBy}

-- ---- refusals

-- what refuses the one refuses the other
pub refused_as : {A B C D : Type 0} (seen : A → B) (seen' : C → D) (table : Text) (row : ℕ) (x : Result B Fault) (y : Result D Fault) (stop : Stop) → ((f : Fault) → x ≡ Err f → y ≡ Err f)
    → AnswersBy seen table row x (Err stop) → AnswersBy seen' table row y (Err stop)
refused_as seen seen' table row x y NoMemory then is = tt
refused_as seen seen' table row x y (Refused why) then is = then (fault_of table row why) is

-- a refusal with the row's number
pub tells_refused : {A B : Type 0} (seen : A → B) (table : Text) (row : ℕ) (x : Result B Fault) (stop : Stop) (e : PlanError) → AnswersBy seen table row x (Err stop) → IsRefusal table row stop e → TellsBy seen x (Err e)
tells_refused seen table row x stop error.NoMemory is refusal = tt
tells_refused seen table row x NoMemory (error.Fault f) is refusal = absurd refusal
tells_refused seen table row x (Refused why) (error.Fault f) is refusal = is ∙ ap Err (sym refusal)

-- ---- rows

module _ (L : Lookups) (r : Numbered RegistryRow) where
  abbrev says_of : RegistryPlace → Result model.Says Fault
  says_of place = said r.row.name place.name r.row.value (expanded L (codes "Registry") r.number)

  pub means : (place : RegistryPlace) (says : model.Says) → registry_place L r ≡ Ok place → says_of place ≡ Ok says → registry_meaning L r ≡ Ok (record { place = place; says = says })
  unfolding registry_meaning
  means place says named is =
      ap (λ (x : Result RegistryPlace Fault). x >>= λ place. says_of place >>= λ says. Ok (record { place = place; says = says })) named
      ∙ ap (λ (x : Result model.Says Fault). x >>= λ says. Ok (record { place = place; says = says })) is

  pub says_nothing : (place : RegistryPlace) (f : Fault) → registry_place L r ≡ Ok place → says_of place ≡ Err f → registry_meaning L r ≡ Err f
  unfolding registry_meaning
  says_nothing place f named is =
      ap (λ (x : Result RegistryPlace Fault). x >>= λ place. says_of place >>= λ says. Ok (record { place = place; says = says })) named
      ∙ ap (λ (x : Result model.Says Fault). x >>= λ says. Ok (record { place = place; says = says })) is

  pub names_nothing : (f : Fault) → registry_place L r ≡ Err f → registry_meaning L r ≡ Err f
  unfolding registry_meaning
  names_nothing f is = ap (λ (x : Result RegistryPlace Fault). x >>= λ place. says_of place >>= λ says. Ok (record { place = place; says = says })) is

-- a text that is refused
pub writes_err : (value : Text) (field : Option Text) (name : Text) (expand : Text → Result Text Fault) (f : Fault) → expand value ≡ Err f → said field name (Some value) expand ≡ Err f
writes_err value field name expand f is = ap (λ (x : Result Text Fault). x >>= λ text. Ok (model.Writes text)) is
