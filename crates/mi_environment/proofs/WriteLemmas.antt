-- What rows of WriteEnvironmentStrings make of a plan.
use Rattle.std.proofs.Common.{◌≡◌, ℕ, true, false, cond, ◌&&◌, List, [], ◌∷◌, map, Bor, Option, Some, None, refl, sym, ap, subst, ◌∙◌}
use Rattle.std.specs.Prelude.{codes, is_some, option_map, filter, Result, Ok, Err}
use Rattle.std.specs.Option.{option_map_or, option_or}
use Rattle.std.specs.FinMap.{get}
use Rattle.mi_text.specs.Lookups.{Lookups}
use Rattle.mi_text.specs.Maps.{Name, Map}
use Rattle.mi_base.specs.declared.entry.Entry.{Entry}
use Rattle.mi_base.specs.declared.answers.Fault.{Fault}
use Rattle.mi_base.specs.Machine.{Machine}
use Rattle.mi_source.specs.Paths.{Files}
use Rattle.mi_changes.specs.Touches.{Set, Touch}
use Rattle.mi_schema.specs.declared.package.Package.{Package}
use Rattle.mi_schema.specs.declared.typed_rows.EnvironmentRow.{EnvironmentRow}
use Rattle.mi_schema.specs.RowsOf.{rows_in}
use Rattle.mi_schema.specs.TableRows.{Numbered, in_key_order, Rows as TableRows}
use Rattle.mi_model.specs.Texts.{Text}
use Rattle.mi_model.specs.World.{World}
use Rattle.mi_model.specs.Asked.{comes, lookups}
use Rattle.mi_model.specs.ComponentRows.{rows_that}
use Rattle.mi_model.specs.Refusals.{◌>>=◌, size_fault, unless}
use Rattle.mi_model.specs.EnvironmentRows.{Form, named_variable, environment_form}
use Rattle.mi_model.specs.WriteEnvironmentStrings.{old_text, is_to_write, text_after, variable_entry, variable_written, variable_after, variable_fault, write_string, write_environment_strings}
use Rattle.mi_steps.specs.declared.plan.Plan.{Plan}
use Rattle.mi_steps.specs.Follows.{Follows, put_touch}
use Rattle.mi_steps.specs.Makes.{plan_machine}
use Rattle.mi_steps.proofs.FollowLemmas.{no_step, same_touch}
use Rattle.mi_records.specs.declared.error.PlanError.{PlanError}
use Rattle.mi_records.specs.declared.error.PlanError.TheVariants as error
use Rattle.mi_records.specs.Choices.{Choices, IsAsked}
use Rattle.mi_records.specs.Order.{as_numbered}
use Rattle.mi_records.specs.Rows.{Row}
use Rattle.mi_records.proofs.PhaseLemmas.{map-over}
use Rattle.mi_records.proofs.RemovingLemmas.{taken_seen}
use Rattle.mi_row_steps.specs.Sizes.{Put}
use Rattle.mi_variables.specs.Written.{written_text}
use Rattle.mi_environment.specs.Variables.{write_effect}
use Rattle.mi_environment.proofs.VariableLemmas.{plain_variable, entry_named}

-- ---- a row whose Name is good and whose Value has a form

-- the entry that it writes
written_is : (name : Text) (form : Form) (old : Option Entry) → variable_written name form old ≡ option_map (variable_entry name) (written_text name form (old_text old))
written_is name form old = elim (is_to_write name (old_text old)) as (λ b. cond b (option_map (variable_entry name) (text_after form (old_text old))) None ≡ option_map (variable_entry name) (cond b (text_after form (old_text old)) None)) [
  | true ↦ refl
  | false ↦ refl
]

module _ (held : Map (List ℕ)) (files : Files) (a : Plan) (row : ℕ) (name : Text) (form : Form) where
  abbrev machine : Machine
  machine = plan_machine held files a

  abbrev stood : Option Entry
  stood = get machine (named_variable name)

  module _ (text : Option Text) (is : text ≡ written_text name form (old_text stood)) where
    written : variable_written name form stood ≡ option_map (variable_entry name) text
    written = written_is name form stood ∙ ap (option_map (variable_entry name)) (sym is)

    fault_is : variable_fault machine row name form ≡ option_map_or (size_fault (codes "Environment") row) (option_map (variable_entry name) text) None
    fault_is = ap (λ (o : Option Entry). option_map_or (size_fault (codes "Environment") row) o None) written

    after_is : variable_after name form stood ≡ option_or (option_map (variable_entry name) text) stood
    unfolding variable_after
    after_is = ap (λ (o : Option Entry). option_or o stood) written

  -- it writes this text
  pub wrote : (b : Plan) (text : Text) (r : Result (Unit {0}) PlanError) → Some text ≡ written_text name form (old_text stood) → Put held files a b (codes "Environment") row (variable_entry name text) r → Row held files a b (write_effect row name form) r
  wrote b text (Ok done) is put = record {
    touches = Set (named_variable name) (variable_after name form) ∷ [];
    gives = ap (λ (o : Option Fault). unless o (Ok (Set (named_variable name) (variable_after name form) ∷ []))) (fault_is (Some text) is ∙ put.0);
    makes = same_touch files machine (plan_machine held files b) a.script b.script (named_variable name) (λ old. Some (variable_entry name text)) (variable_after name form) (sym (after_is (Some text) is))
        (subst (λ (q : Name). Follows files machine (plan_machine held files b) a.script b.script (put_touch q (variable_entry name text) ∷ [])) (entry_named name text) put.1);
  }
  wrote b text (Err error.NoMemory) is put = tt
  wrote b text (Err (error.Fault f)) is put = ap (λ (o : Option Fault). unless o (Ok (Set (named_variable name) (variable_after name form) ∷ []))) (fault_is (Some text) is ∙ put)

  -- it writes nothing
  pub wrote_nothing : None ≡ written_text name form (old_text stood) → Row held files a a {A = Unit {0}} (write_effect row name form) (Ok tt)
  wrote_nothing is = record {
    touches = Set (named_variable name) (variable_after name form) ∷ [];
    gives = ap (λ (o : Option Fault). unless o (Ok (Set (named_variable name) (variable_after name form) ∷ []))) (fault_is None is);
    makes = no_step files machine a.script (named_variable name) (variable_after name form) (ap (λ b. b && is_some (variable_after name form stood)) (plain_variable name)) (after_is None is);
  }

-- ---- a row

module _ (w : World) (L : Lookups) (r : Numbered EnvironmentRow) (m : Machine) (same : lookups w ≡ L) where
  abbrev writes : Result Form Fault → Result (List (Touch Entry)) Fault
  writes x = x >>= λ form. unless (variable_fault m r.number r.row.name form) (Ok (Set (named_variable r.row.name) (variable_after r.row.name form) ∷ []))

  pub row_writes : (form : Form) → environment_form L r ≡ Ok form → write_string w r m ≡ write_effect r.number r.row.name form m
  unfolding write_string
  row_writes form is = ap (λ (K : Lookups). writes (environment_form K r)) same ∙ ap writes is

  pub row_writes_nothing : (f : Fault) → environment_form L r ≡ Err f → write_string w r m ≡ Err f
  unfolding write_string
  row_writes_nothing f is = ap (λ (K : Lookups). writes (environment_form K r)) same ∙ ap writes is

-- ---- the rows of the phase

abbrev pub ordered : Package → List (Numbered EnvironmentRow)
ordered p = in_key_order (λ (r : EnvironmentRow). r.environment) (rows_in p).environment

pub coming_are : (L : Lookups) (c : Choices) (p : Package) (w : World) → IsAsked L c p w → (rows : List (ℕ × Bor EnvironmentRow)) → map as_numbered rows ≡ ordered p
    → map as_numbered (filter (λ r. c.coming r.1.now.component) rows) ≡ rows_that (λ (r : EnvironmentRow). r.environment) (λ (r : EnvironmentRow). r.component) (comes w) w.given.rows.environment
coming_are L c p w asked rows is =
    sym (taken_seen (λ (r : EnvironmentRow). comes w r.component) (λ (r : EnvironmentRow). c.coming r.component) (λ r. asked.coming r.component) rows)
    ∙ ap (λ (ns : List (Numbered EnvironmentRow)). filter (λ (r : Numbered EnvironmentRow). comes w r.row.component) ns) (is ∙ ap (λ (rs : TableRows). in_key_order (λ (r : EnvironmentRow). r.environment) rs.environment) (sym asked.rows))

pub write_effects : (w : World) (rows : List (ℕ × Bor EnvironmentRow)) → map as_numbered rows ≡ rows_that (λ (r : EnvironmentRow). r.environment) (λ (r : EnvironmentRow). r.component) (comes w) w.given.rows.environment
    → write_environment_strings w ≡ Ok (map (λ r. write_string w (as_numbered r)) rows)
unfolding write_environment_strings
write_effects w rows is = ap (λ (ns : List (Numbered EnvironmentRow)). Ok (map (write_string w) ns)) (sym is) ∙ ap Ok (map-over (write_string w) as_numbered rows)
