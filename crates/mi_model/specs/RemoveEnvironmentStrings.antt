-- RemoveEnvironmentStrings. (RemoveEnvironmentStrings Action; Environment Table. What guards keep is this project's own.)
use Rattle.std.specs.Prelude.{◌&&◌, ◌||◌, Bool, if◌then◌else◌, List, [], ◌∷◌, map, filter, Option, Some, None, Ok}
use Rattle.std.specs.List.{join_with_byte}
use Rattle.std.specs.Str.{bytes_eq}
use Rattle.mi_text.specs.Maps.{Name}
use Rattle.mi_base.specs.declared.entry.Entry.{Entry}
use Rattle.mi_base.specs.declared.entry.Entry.TheVariants.{Variable as VariableEntry}
use Rattle.mi_base.specs.declared.entry.Variable.{Variable}
use Rattle.mi_base.specs.Machine.{as_variable}
use Rattle.mi_schema.specs.declared.typed_rows.EnvironmentRow.{EnvironmentRow}
use Rattle.mi_model.specs.Texts.{Text}
use Rattle.mi_model.specs.World.{World, RowEffect, Effect}
use Rattle.mi_schema.specs.TableRows.{Numbered, in_key_order}
use Rattle.mi_changes.specs.Touches.{Touch, Set}
use Rattle.mi_model.specs.Asked.{leaves, lookups}
use Rattle.mi_model.specs.Refusals.{◌>>=◌}
use Rattle.mi_model.specs.ComponentRows.{is_local, is_guarded_by}
use Rattle.mi_model.specs.ListItems.{without_first}
use Rattle.mi_model.specs.EnvironmentRows.{Form, Null, Whole, Behind, Before, removes, clears, named_variable, environment_form}
use Rattle.mi_model.specs.WriteEnvironmentStrings.{items_of}

-- ---- which rows: those with `-` of leaving components, and those with `!` of local ones

abbrev pub is_taken_away : World → EnvironmentRow → Bool
is_taken_away w r = leaves w r.component && removes r.name

abbrev pub is_cleared : World → EnvironmentRow → Bool
is_cleared w r = is_local w r.component && clears r.name

unfoldable pub removing_rows : World → List (Numbered EnvironmentRow)
removing_rows w = filter (λ (r : Numbered EnvironmentRow). is_taken_away w r.row || is_cleared w r.row) (in_key_order (λ (r : EnvironmentRow). r.environment) w.given.rows.environment)

-- ---- what a row takes

-- a variable with these items left; where none is left, it goes
abbrev pub of_items : Variable → List Text → Option Entry
of_items v [] = None
of_items v (x ∷ xs) = Some (VariableEntry (record v { value = join_with_byte 59 (x ∷ xs) }))

-- without the first item that equals the part
abbrev pub less_part : Text → Option Variable → Option Entry
less_part part None = None
less_part part (Some v) = of_items v (without_first part (items_of v.value))

-- without a variable that has exactly this value
abbrev pub less_value : Text → Option Variable → Option Entry
less_value text None = None
less_value text (Some v) = if bytes_eq v.value text then None else Some (VariableEntry v)

-- a null Value and a leaving row's whole one take the variable, a local row's whole one only where the variable has this value
abbrev pub variable_less : Bool → Form → Option Variable → Option Entry
variable_less leaving Null old = None
variable_less leaving (Whole text) old = if leaving then None else less_value text old
variable_less leaving (Behind part) old = less_part part old
variable_less leaving (Before part) old = less_part part old

-- ---- the phase

abbrev pub variable_named : Numbered EnvironmentRow → Option Name
variable_named r = Some (named_variable r.row.name)

-- a row of a kept component names this variable
unfoldable pub is_guarded_variable : World → Name → Bool
is_guarded_variable w name = is_guarded_by w (λ (r : EnvironmentRow). r.component) variable_named w.given.rows.environment name

unfoldable pub string_touches : World → EnvironmentRow → Form → List (Touch Entry)
string_touches w r form =
    if leaves w r.component && is_guarded_variable w (named_variable r.name) then []
    else Set (named_variable r.name) (λ old. variable_less (leaves w r.component) form (as_variable old)) ∷ []

unfoldable pub remove_string : World → Numbered EnvironmentRow → RowEffect
remove_string w r m = environment_form (lookups w) r >>= λ form. Ok (string_touches w r.row form)

unfoldable pub remove_environment_strings : Effect
remove_environment_strings w = Ok (map (remove_string w) (removing_rows w))
