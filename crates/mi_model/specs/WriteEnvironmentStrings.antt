-- WriteEnvironmentStrings. (WriteEnvironmentStrings Action; Environment Table.)
use Rattle.std.specs.Prelude.{ℕ, ◌==◌, ◌&&◌, ◌||◌, Bool, if◌then◌else◌, List, [], ◌∷◌, ◌++◌, map, length, codes, Option, Some, None, is_none, option_map, Ok}
use Rattle.std.specs.Option.{option_or, option_map_or}
use Rattle.std.specs.List.{list_any, slice_split}
use Rattle.std.specs.FinMap.{get}
use Rattle.mi_text.specs.Maps.{same_name}
use Rattle.mi_text.specs.Fold.{folded}
use Rattle.mi_base.specs.declared.entry.Entry.{Entry}
use Rattle.mi_base.specs.declared.entry.Entry.TheVariants.{Variable as VariableEntry}
use Rattle.mi_base.specs.declared.entry.Variable.{Variable}
use Rattle.mi_base.specs.Machine.{Machine, as_variable}
use Rattle.mi_schema.specs.declared.typed_rows.EnvironmentRow.{EnvironmentRow}
use Rattle.mi_model.specs.Texts.{Text}
use Rattle.mi_base.specs.declared.answers.Fault.{Fault}
use Rattle.mi_model.specs.World.{World, RowEffect, Effect}
use Rattle.mi_schema.specs.TableRows.{Numbered}
use Rattle.mi_changes.specs.Touches.{Set}
use Rattle.mi_model.specs.Asked.{comes, lookups}
use Rattle.mi_model.specs.Refusals.{◌>>=◌, size_fault, unless}
use Rattle.mi_model.specs.ComponentRows.{rows_that}
use Rattle.mi_model.specs.EnvironmentRows.{Form, Null, Whole, Behind, Before, sets, creates, is_of_system, variable_in, named_variable, environment_form}

abbrev pub old_text : Option Entry → Option Text
old_text old = option_map (λ (v : Variable). v.value) (as_variable old)

abbrev pub items_of : Text → List Text
items_of value = slice_split (λ b. b == 59) value

-- an item of the value has the part's folded text
abbrev pub has_part : Text → Text → Bool
has_part part value = list_any (λ item. same_name (folded part) (folded item)) (items_of value)

-- a part beside the old value; a missing variable becomes the part
abbrev pub with_part : Text → (Text → Text) → Option Text → Option Text
with_part part join None = Some part
with_part part join (Some old) = if has_part part old then None else Some (join old)

-- the text that the variable then has; None where it stays as it is
abbrev pub text_after : Form → Option Text → Option Text
text_after Null old = None
text_after (Whole text) old = if length text == 0 then None else Some text
text_after (Behind part) old = with_part part (λ value. value ++ 59 ∷ part) old
text_after (Before part) old = with_part part (λ value. part ++ 59 ∷ value) old

-- `=` writes always, `+` where there is no variable
abbrev pub is_to_write : Text → Option Text → Bool
is_to_write name old = sets name || (creates name && is_none old)

abbrev pub variable_entry : Text → Text → Entry
variable_entry name text = VariableEntry (record { system = is_of_system name; name = variable_in name; value = text })

-- what a row writes over what stood there, if anything
abbrev pub variable_written : Text → Form → Option Entry → Option Entry
variable_written name form old = if is_to_write name (old_text old) then option_map (variable_entry name) (text_after form (old_text old)) else None

-- a row's variable, which stays where the row writes nothing
unfoldable pub variable_after : Text → Form → Option Entry → Option Entry
variable_after name form old = option_or (variable_written name form old) old

abbrev pub variable_fault : Machine → ℕ → Text → Form → Option Fault
variable_fault m row name form = option_map_or (size_fault (codes "Environment") row) (variable_written name form (get m (named_variable name))) None

unfoldable pub write_string : World → Numbered EnvironmentRow → RowEffect
write_string w r m =
    environment_form (lookups w) r >>= λ form.
    unless (variable_fault m r.number r.row.name form) (Ok (Set (named_variable r.row.name) (variable_after r.row.name form) ∷ []))

unfoldable pub write_environment_strings : Effect
write_environment_strings w = Ok (map (write_string w) (rows_that (λ (r : EnvironmentRow). r.environment) (λ (r : EnvironmentRow). r.component) (comes w) w.given.rows.environment))
