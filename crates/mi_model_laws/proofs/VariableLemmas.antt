-- The variables that WriteEnvironmentStrings and RemoveEnvironmentStrings leave.
use Rattle.std.proofs.Common.{◌≡◌, cond, List, [], ◌∷◌, sym, ap, ◌∙◌}
use Rattle.std.specs.Prelude.{◌&&◌, Ok}
use Rattle.std.specs.FinMap.{get}
use Rattle.mi_text.specs.Maps.{Name, same_name}
use Rattle.mi_base.specs.declared.entry.Entry.{Entry}
use Rattle.mi_base.specs.Machine.{Machine, as_variable}
use Rattle.mi_schema.specs.TableRows.{Numbered}
use Rattle.mi_schema.specs.declared.typed_rows.EnvironmentRow.{EnvironmentRow}
use Rattle.mi_changes.specs.Touches.{Touch, Set, left_at}
use Rattle.mi_model.specs.World.{World}
use Rattle.mi_model.specs.Asked.{leaves, lookups}
use Rattle.mi_model.specs.Refusals.{unless}
use Rattle.mi_model.specs.EnvironmentRows.{environment_form, named_variable}
use Rattle.mi_model.specs.WriteEnvironmentStrings.{variable_after, variable_fault, write_string, write_environment_strings}
use Rattle.mi_model.specs.RemoveEnvironmentStrings.{removing_rows, is_guarded_variable, variable_less, string_touches, remove_string, remove_environment_strings}
use Rattle.mi_model_laws.specs.PhaseLaws.{IsAfter, in_turn}
use Rattle.mi_model_laws.specs.RecordLaws.{written_as, variable_by, coming_variables, left_as, variable_less_by}
use Rattle.mi_model_laws.proofs.RowLemmas.{from_ok, bound, unrefused, Acts, get-in_turn, unless_guarded}

written_acts : (w : World) (q : Name) (r : Numbered EnvironmentRow) → Acts q (write_string w r) (variable_by w q r)
unfolding write_string
written_acts w q r m ts e old =
    let n = named_variable r.row.name in
    let read = bound (environment_form (lookups w) r) (λ form. unless (variable_fault m r.number r.row.name form) (Ok (Set n (variable_after r.row.name form) ∷ []))) ts e in
    let fine = unrefused (variable_fault m r.number r.row.name read.value) (Ok (Set n (variable_after r.row.name read.value) ∷ [])) ts read.rest in
    ap (λ (ts : List (Touch Entry)). left_at q ts old) (sym (from_ok (Set n (variable_after r.row.name read.value) ∷ []) ts fine.is))
    ∙ ap (λ form. cond (same_name q n) (written_as r.row.name old form) old) (sym read.is)

pub variables_are_written : (w : World) (m : Machine) → IsAfter write_environment_strings w m → (q : Name) → get m q ≡ in_turn (variable_by w q) (coming_variables w) (get w.machine q)
unfolding write_environment_strings
variables_are_written w m after q =
    ap (λ n. get n q) after.machine ∙ get-in_turn q (write_string w) (variable_by w q) (coming_variables w) w.machine after.rows (written_acts w q) after.touched

removed_acts : (w : World) (q : Name) (r : Numbered EnvironmentRow) → Acts q (remove_string w r) (variable_less_by w q r)
unfolding remove_string string_touches
removed_acts w q r m ts e old =
    let n = named_variable r.row.name in
    let leaving = leaves w r.row.component in
    let read = bound (environment_form (lookups w) r) (λ form. Ok (string_touches w r.row form)) ts e in
    ap (λ (ts : List (Touch Entry)). left_at q ts old) (sym (from_ok (string_touches w r.row read.value) ts read.rest))
    ∙ unless_guarded (λ k. leaving && is_guarded_variable w k) q n (λ o. variable_less leaving read.value (as_variable o)) old
    ∙ ap (λ form. cond (same_name q n) (cond (leaving && is_guarded_variable w q) old (left_as leaving old form)) old) (sym read.is)

pub variables_are_removed : (w : World) (m : Machine) → IsAfter remove_environment_strings w m → (q : Name) → get m q ≡ in_turn (variable_less_by w q) (removing_rows w) (get w.machine q)
unfolding remove_environment_strings
variables_are_removed w m after q =
    ap (λ n. get n q) after.machine ∙ get-in_turn q (remove_string w) (variable_less_by w q) (removing_rows w) w.machine after.rows (removed_acts w q) after.touched
