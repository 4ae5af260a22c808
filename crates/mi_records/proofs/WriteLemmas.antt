-- What rows of WriteRegistryValues make of a plan.
use Rattle.std.proofs.Common.{◌≡◌, ℕ, ◌<◌, map, take, get_or, false, List, [], ◌∷◌, ◌++◌, length, Option, sym, ap, ◌∙◌}
use Rattle.std.specs.Prelude.{codes, Result, Ok, Err, OnOk}
use Rattle.mi_text.specs.Maps.{Map}
use Rattle.mi_text.specs.Fold.{folded}
use Rattle.mi_text.specs.Lookups.{Lookups}
use Rattle.mi_base.specs.declared.entry.Entry.{Entry}
use Rattle.mi_base.specs.declared.entry.RegValue.{RegValue}
use Rattle.mi_base.specs.declared.answers.Fault.{Fault}
use Rattle.mi_base.specs.Machine.{Machine}
use Rattle.mi_base.specs.Names.{value_name, digit, four_digits}
use Rattle.mi_base.specs.Spelling.{name_of}
use Rattle.mi_base.proofs.FoldLemmas.{folded-folded}
use Rattle.mi_source.specs.Paths.{Files}
use Rattle.mi_changes.specs.Touches.{Touch}
use Rattle.mi_schema.specs.declared.typed_rows.RegistryRow.{RegistryRow}
use Rattle.mi_schema.specs.TableRows.{Numbered}
use Rattle.mi_model.specs.Texts.{Text}
use Rattle.mi_model.specs.World.{World, RowEffect}
use Rattle.mi_model.specs.Asked.{lookups}
use Rattle.mi_model.specs.Parents.{key_with_parents}
use Rattle.mi_model.specs.Refusals.{◌>>=◌, unless}
use Rattle.mi_model.specs.RegistryRows as model
use Rattle.mi_model.specs.RegistryRows.{RegistryPlace, RegistryMeaning, name_of_value, registry_meaning}
use Rattle.mi_model.specs.WriteRegistryValues.{value_entry, place_touches, written_fault, value_fault, meaning_touches, write_row}
use Rattle.mi_steps.specs.declared.plan.Plan.{Plan}
use Rattle.mi_steps.specs.Makes.{Makes, plan_machine, is_file}
use Rattle.mi_steps.specs.Follows.{put_touch}
use Rattle.mi_steps.specs.Rows.{FollowsRows}
use Rattle.mi_records.specs.declared.error.PlanError.{PlanError}
use Rattle.mi_records.specs.declared.error.PlanError.TheVariants as error
use Rattle.mi_records.specs.declared.stop.Stop.{Stop}
use Rattle.mi_records.specs.declared.stop.Why.{Why}
use Rattle.mi_records.specs.declared.stop.Stop.TheVariants.{NoMemory, Refused}
use Rattle.mi_records.specs.Stops.{fault_of, stop_of, IsRefusal, AnswersBy}
use Rattle.mi_records.specs.Rows.{Only, RowIn, Row, Rows}
use Rattle.mi_records.specs.Values.{IsValueAt, MakesValue}
use Rattle.mi_records.proofs.ValueLemmas.{written_ok, written_refused, value_made}
use Rattle.mi_records.proofs.RowLemmas.{refused_row}

-- ---- the entry of a value

pub value_named : (p : RegistryPlace) (v : RegValue) (e : Entry) → e ≡ value_entry p v → name_of e ≡ name_of_value p
unfolding value_name
value_named p v e is = ap name_of is ∙ ap (λ (k : List ℕ). codes "v/" ++ (digit p.root ∷ four_digits (length k) ++ k ++ folded p.name)) (folded-folded p.key)

pub value_plain : (p : RegistryPlace) (v : RegValue) (e : Entry) → e ≡ value_entry p v → is_file e ≡ false
value_plain p v e is = ap is_file is

-- ---- rows

-- what a row does that names this place and says this
abbrev pub effect_of : RegistryPlace → model.Says → ℕ → RowEffect
effect_of p says row m = unless (written_fault m row p says) (Ok (place_touches p says))

module _ (held : Map (List ℕ)) (files : Files) (a b : Plan) where
  pub value_written : {A E : Type 0} (p : RegistryPlace) (text : Text) (e : Entry) (row : ℕ) (r : Result A E) → IsValueAt (plan_machine held files a) p text e
      → OnOk r (Makes held files a b (key_with_parents p.root p.key ++ put_touch (name_of_value p) e ∷ [])) → RowIn held files a b (codes "Registry") row (effect_of p (model.Writes text) row) (stop_of r)
  value_written p text e row (Ok done) at made = record {
    touches = place_touches p (model.Writes text);
    gives = ap (λ (o : Option Fault). unless o (Ok (place_touches p (model.Writes text)))) (written_ok (plan_machine held files a) p text e row at);
    makes = value_made files (plan_machine held files a) (plan_machine held files b) a.script b.script p text e at made;
  }
  value_written p text e row (Err error) at made = tt

  pub only_of : {A E : Type 0} (touches : List (Touch Entry)) (r : Result A E) → OnOk r (Makes held files a b touches) → Only held files a b touches (stop_of r)
  only_of touches (Ok done) made = made
  only_of touches (Err error) made = tt

  pub value_refused : (A : Type 0) (p : RegistryPlace) (text : Text) (row : ℕ) (stop : Stop) → MakesValue (plan_machine held files a) p text (Err stop)
      → RowIn held files a b {A = A} (codes "Registry") row (effect_of p (model.Writes text) row) (Err stop)
  value_refused A p text row NoMemory is = tt
  value_refused A p text row (Refused why) is =
      ap (λ (o : Option Fault). unless o (Ok (place_touches p (model.Writes text)))) (written_refused (plan_machine held files a) p text row is.1)
      ∙ ap (λ (w : Why). Err (fault_of (codes "Registry") row w)) (sym is.0)

  -- a row that makes a key alone
  pub key_written : {A : Type 0} (p : RegistryPlace) (says : model.Says) (row : ℕ) (r : Result A Stop) → effect_of p says row (plan_machine held files a) ≡ Ok (key_with_parents p.root p.key)
      → Only held files a b (key_with_parents p.root p.key) r → RowIn held files a b (codes "Registry") row (effect_of p says row) r
  key_written p says row (Ok done) gives made = record { touches = key_with_parents p.root p.key; gives = gives; makes = made }
  key_written p says row (Err NoMemory) gives made = tt
  key_written p says row (Err (Refused why)) gives made = absurd made

  -- a row that does as another one
  pub row_as : {A : Type 0} (table : Text) (row : ℕ) (x y : RowEffect) (r : Result A Stop) → y (plan_machine held files a) ≡ x (plan_machine held files a) → RowIn held files a b table row x r → RowIn held files a b table row y r
  row_as table row x y (Ok done) same made = record { touches = made.touches; gives = same ∙ made.gives; makes = made.makes }
  row_as table row x y (Err NoMemory) same is = tt
  row_as table row x y (Err (Refused why)) same is = same ∙ is

  -- a row whose meaning is refused
  pub row_refused_by : {B C : Type 0} (A : Type 0) (seen : B → C) (table : Text) (row : ℕ) (x : Result C Fault) (y : RowEffect) (stop : Stop) → ((f : Fault) → x ≡ Err f → y (plan_machine held files a) ≡ Err f)
      → AnswersBy seen table row x (Err stop) → RowIn held files a b {A = A} table row y (Err stop)
  row_refused_by A seen table row x y NoMemory then is = tt
  row_refused_by A seen table row x y (Refused why) then is = then (fault_of table row why) is

  -- a row with its number
  pub row_told : (A : Type 0) (table : Text) (row : ℕ) (effect : RowEffect) (stop : Stop) (e : PlanError) → RowIn held files a b {A = A} table row effect (Err stop) → IsRefusal table row stop e → Row held files a b {A = A} effect (Err e)
  row_told A table row effect stop error.NoMemory is refusal = tt
  row_told A table row effect NoMemory (error.Fault f) is refusal = absurd refusal
  row_told A table row effect (Refused why) (error.Fault f) is refusal = is ∙ ap Err (sym refusal)

  -- a row that is refused refuses all of them
  pub rows_refused : {X : Type 0} (A B : Type 0) (f : X → RowEffect) (xs : List X) (k : ℕ) (x : X) (c : Plan) (e : PlanError) → k < length xs → x ≡ get_or xs k x
      → FollowsRows files (plan_machine held files a) (plan_machine held files b) a.script b.script (map f (take k xs)) → Row held files b c {A = A} (f x) (Err e) → Rows held files a c {A = B} (map f xs) (Err e)
  rows_refused A B f xs k x c error.NoMemory within is so_far refused = tt
  rows_refused A B f xs k x c (error.Fault fault) within is so_far refused =
      refused_row f xs k x within is files (plan_machine held files a) (plan_machine held files b) a.script b.script so_far fault refused

-- what a row means, carried out
pub row_means : (w : World) (L : Lookups) (r : Numbered RegistryRow) (meaning : RegistryMeaning) (m : Machine) → lookups w ≡ L → registry_meaning L r ≡ Ok meaning
    → write_row w r m ≡ effect_of meaning.place meaning.says r.number m
unfolding write_row
row_means w L r meaning m same is =
    ap (λ (K : Lookups). registry_meaning K r >>= λ meaning. unless (value_fault m r.number meaning) (Ok (meaning_touches meaning))) same
    ∙ ap (λ (x : Result RegistryMeaning Fault). x >>= λ meaning. unless (value_fault m r.number meaning) (Ok (meaning_touches meaning))) is

pub row_means_nothing : (w : World) (L : Lookups) (r : Numbered RegistryRow) (m : Machine) → lookups w ≡ L → (f : Fault) → registry_meaning L r ≡ Err f → write_row w r m ≡ Err f
unfolding write_row
row_means_nothing w L r m same f is =
    ap (λ (K : Lookups). registry_meaning K r >>= λ meaning. unless (value_fault m r.number meaning) (Ok (meaning_touches meaning))) same
    ∙ ap (λ (x : Result RegistryMeaning Fault). x >>= λ meaning. unless (value_fault m r.number meaning) (Ok (meaning_touches meaning))) is
