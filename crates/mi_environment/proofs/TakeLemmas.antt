-- What rows of RemoveEnvironmentStrings make of a plan.
use Rattle.std.proofs.Common.{◌≡◌, ℕ, Bool, true, false, cond, not, ◌&&◌, ◌||◌, List, [], ◌∷◌, map, Bor, Option, Some, None, refl, sym, ap, subst, ◌∙◌}
use Rattle.std.specs.Prelude.{is_some, option_map, filter, Result, Ok, Err}
use Rattle.std.specs.FinMap.{get}
use Rattle.std.specs.Str.{bytes_eq}
use Rattle.mi_text.specs.Lookups.{Lookups}
use Rattle.mi_text.specs.Maps.{Name}
use Rattle.mi_base.specs.declared.entry.Entry.{Entry}
use Rattle.mi_base.specs.declared.entry.Entry.TheVariants as entry
use Rattle.mi_base.specs.declared.entry.Variable.{Variable}
use Rattle.mi_base.specs.declared.answers.Fault.{Fault}
use Rattle.mi_base.specs.Machine.{Machine, as_variable}
use Rattle.mi_base.specs.Spelling.{name_of}
use Rattle.mi_source.specs.Paths.{Files}
use Rattle.mi_changes.specs.Touches.{Set, Touch}
use Rattle.mi_schema.specs.declared.package.Package.{Package}
use Rattle.mi_schema.specs.declared.typed_rows.EnvironmentRow.{EnvironmentRow}
use Rattle.mi_schema.specs.TableRows.{Numbered, in_key_order, Rows as TableRows}
use Rattle.mi_script.specs.declared.rec.Rec.{Rec}
use Rattle.mi_script.specs.Spelled.{is_file_name}
use Rattle.mi_model.specs.Texts.{Text}
use Rattle.mi_model.specs.World.{World}
use Rattle.mi_model.specs.ComponentRows.{is_local}
use Rattle.mi_model.specs.Refusals.{◌>>=◌}
use Rattle.mi_model.specs.EnvironmentRows.{Form, named_variable, environment_form, removes, clears}
use Rattle.mi_model.specs.WriteEnvironmentStrings.{items_of}
use Rattle.mi_model.specs.RemoveEnvironmentStrings.{of_items, less_part, less_value, variable_less, is_taken_away, is_cleared, removing_rows, is_guarded_variable, string_touches, remove_string, remove_environment_strings}
use Rattle.mi_model.specs.ListItems.{without_first}
use Rattle.mi_steps.specs.Follows.{Follows, drop_touch, put_touch}
use Rattle.mi_steps.proofs.FollowLemmas.{no_step, same_touch}
use Rattle.mi_records.specs.Choices.{Choices, IsAsked}
use Rattle.mi_records.specs.Order.{as_numbered}
use Rattle.mi_records.proofs.PhaseLemmas.{map-over}
use Rattle.mi_records.proofs.RemovingLemmas.{taken_seen}
use Rattle.mi_variables.specs.Lefts.{left}
use Rattle.mi_environment.specs.Variables.{is_taken, has_other_value, taken_touches, IsHeldAt}
use Rattle.mi_environment.proofs.VariableLemmas.{held_whole}
use Rattle.mi_environment.proofs.WriteLemmas.{ordered}

-- ---- a part

abbrev with_value : Variable → Text → Entry
with_value v text = entry.Variable (record { system = v.system; name = v.name; value = text })

of_left : (v : Variable) (items : List Text) → option_map (with_value v) (left items) ≡ of_items v items
of_left v [] = refl
of_left v (x ∷ xs) = refl

-- what is left of its items
pub part_some : (part : Text) (v : Variable) (text : Text) → Some text ≡ left (without_first part (items_of v.value)) → Some (with_value v text) ≡ less_part part (Some v)
part_some part v text is = ap (option_map (with_value v)) is ∙ of_left v (without_first part (items_of v.value))

pub part_none : (part : Text) (v : Variable) → None ≡ left (without_first part (items_of v.value)) → None ≡ less_part part (Some v)
part_none part v is = ap (option_map (with_value v)) is ∙ of_left v (without_first part (items_of v.value))

-- ---- touches

module _ (files : Files) (m n : Machine) (h i : List Rec) (q : Name) (f : Option Entry → Option Entry) where
  -- nothing is left
  pub taken_whole : None ≡ f (get m q) → Follows files m n h i (drop_touch q ∷ []) → Follows files m n h i (Set q f ∷ [])
  taken_whole is made = same_touch files m n h i q (λ old. None) f is made

  -- this is left
  pub taken_less : (v : Variable) → name_of (entry.Variable v) ≡ q → Some (entry.Variable v) ≡ f (get m q) → Follows files m n h i (put_touch (name_of (entry.Variable v)) (entry.Variable v) ∷ []) → Follows files m n h i (Set q f ∷ [])
  taken_less v named is made = same_touch files m n h i q (λ old. Some (entry.Variable v)) f is (subst (λ (p : Name). Follows files m n h i (put_touch p (entry.Variable v) ∷ [])) named made)

-- ---- a whole value

other_stays : (text : Text) (v : Variable) → not (bytes_eq v.value text) ≡ true → less_value text (Some v) ≡ Some (entry.Variable v)
other_stays text v is = elim (bytes_eq v.value text) as (λ b. not b ≡ true → cond b None (Some (entry.Variable v)) ≡ Some (entry.Variable v)) [
  | true ↦ λ e. cc
  | false ↦ λ e. refl
] is

pub value_stays : (text : Text) (o : Option Entry) → has_other_value text (as_variable o) ≡ true → less_value text (as_variable o) ≡ o
value_stays text o other = by_variable (as_variable o) refl other
  where
    by_variable : (v : Option Variable) → as_variable o ≡ v → has_other_value text v ≡ true → less_value text (as_variable o) ≡ o
    by_variable None is at = cc
    by_variable (Some v) is at = ap (less_value text) is ∙ other_stays text v at ∙ sym (held_whole o v is)

pub value_goes : (text : Text) (v : Option Variable) → has_other_value text v ≡ false → None ≡ less_value text v
value_goes text None is = refl
value_goes text (Some v) is = elim (bytes_eq v.value text) as (λ b. not b ≡ false → None ≡ cond b None (Some (entry.Variable v))) [
  | true ↦ λ e. refl
  | false ↦ λ e. cc
] is

pub stays_so : (files : Files) (m : Machine) (h : List Rec) (q : Name) (text : Text) → is_file_name q ≡ false → has_other_value text (as_variable (get m q)) ≡ true → Follows files m m h h (Set q (λ old. less_value text (as_variable old)) ∷ [])
stays_so files m h q text plain other = no_step files m h q (λ old. less_value text (as_variable old)) (ap (λ b. b && is_some (less_value text (as_variable (get m q)))) plain) (value_stays text (get m q) other)

-- ---- a row

pub held_back : (leaving : Bool) (guarded : Name → Bool) (name : Text) (form : Form) → (leaving && guarded (named_variable name)) ≡ true → taken_touches leaving guarded name form ≡ []
held_back leaving guarded name form is = ap (λ b. cond b [] (Set (named_variable name) (λ old. variable_less leaving form (as_variable old)) ∷ [])) is

pub not_held_back : (leaving : Bool) (guarded : Name → Bool) (name : Text) (form : Form) → (leaving && guarded (named_variable name)) ≡ false
    → taken_touches leaving guarded name form ≡ Set (named_variable name) (λ old. variable_less leaving form (as_variable old)) ∷ []
not_held_back leaving guarded name form is = ap (λ b. cond b [] (Set (named_variable name) (λ old. variable_less leaving form (as_variable old)) ∷ [])) is

module _ (L : Lookups) (c : Choices) (p : Package) (w : World) (asked : IsAsked L c p w) (r : Numbered EnvironmentRow) (m : Machine) where
  abbrev takes : Result Form Fault → Result (List (Touch Entry)) Fault
  takes x = x >>= λ form. Ok (string_touches w r.row form)

  touches_are : (form : Form) → string_touches w r.row form ≡ taken_touches (c.leaving r.row.component) (is_guarded_variable w) r.row.name form
  unfolding string_touches
  touches_are form = ap (λ b. taken_touches b (is_guarded_variable w) r.row.name form) (asked.leaving r.row.component)

  pub row_takes : (form : Form) → environment_form L r ≡ Ok form → remove_string w r m ≡ Ok (taken_touches (c.leaving r.row.component) (is_guarded_variable w) r.row.name form)
  unfolding remove_string
  row_takes form is = ap (λ (K : Lookups). takes (environment_form K r)) asked.lookups ∙ ap takes is ∙ ap Ok (touches_are form)

  pub row_takes_nothing : (f : Fault) → environment_form L r ≡ Err f → remove_string w r m ≡ Err f
  unfolding remove_string
  row_takes_nothing f is = ap (λ (K : Lookups). takes (environment_form K r)) asked.lookups ∙ ap takes is

-- ---- the rows of the phase

module _ (L : Lookups) (c : Choices) (p : Package) (w : World) (asked : IsAsked L c p w) where
  taken_is : (r : EnvironmentRow) → (is_taken_away w r || is_cleared w r) ≡ is_taken c r
  taken_is r =
      ap (λ b. (b && removes r.name) || (is_local w r.component && clears r.name)) (asked.leaving r.component)
      ∙ ap (λ b. (c.leaving r.component && removes r.name) || (b && clears r.name)) (asked.local r.component)

  pub removing_are : (rows : List (ℕ × Bor EnvironmentRow)) → map as_numbered rows ≡ ordered p → map as_numbered (filter (λ r. is_taken c r.1.now) rows) ≡ removing_rows w
  unfolding removing_rows
  removing_are rows is =
      sym (taken_seen (λ (r : EnvironmentRow). is_taken_away w r || is_cleared w r) (is_taken c) taken_is rows)
      ∙ ap (λ (ns : List (Numbered EnvironmentRow)). filter (λ (r : Numbered EnvironmentRow). is_taken_away w r.row || is_cleared w r.row) ns) (is ∙ ap (λ (rs : TableRows). in_key_order (λ (r : EnvironmentRow). r.environment) rs.environment) (sym asked.rows))

pub remove_effects : (w : World) (rows : List (ℕ × Bor EnvironmentRow)) → map as_numbered rows ≡ removing_rows w → remove_environment_strings w ≡ Ok (map (λ r. remove_string w (as_numbered r)) rows)
unfolding remove_environment_strings
remove_effects w rows is = ap (λ (ns : List (Numbered EnvironmentRow)). Ok (map (remove_string w) ns)) (sym is) ∙ ap Ok (map-over (remove_string w) as_numbered rows)

-- ---- what is left of a variable

-- it has its name
pub value_named : (q : Name) (v : Variable) (text : Text) → IsHeldAt q v → IsHeldAt q (record { system = v.system; name = v.name; value = text })
value_named q v text held = held

-- of a variable that is held
pub part_held : (part : Text) (o : Option Variable) (v : Variable) (rest : Option Entry) → rest ≡ less_part part (Some v) → Some v ≡ o → rest ≡ less_part part o
part_held part o v rest is at = is ∙ ap (less_part part) at
