-- WriteRegistryValues. (WriteRegistryValues Action; Registry Table; REINSTALLMODE Property, letters m and u.)
use Rattle.std.specs.Prelude.{ℕ, ◌==◌, ◌||◌, not, Bool, false, if◌then◌else◌, List, [], ◌∷◌, ◌++◌, map, filter, codes, Option, Some, None, option_map, Result, Ok, Err}
use Rattle.std.specs.Result.{result_ok}
use Rattle.std.specs.Option.{option_map_or}
use Rattle.std.specs.FinMap.{get}
use Rattle.mi_text.specs.Fold.{folded}
use Rattle.mi_base.specs.declared.entry.Entry.{Entry}
use Rattle.mi_base.specs.declared.entry.Entry.TheVariants as entry
use Rattle.mi_base.specs.declared.entry.RegValue.{RegValue}
use Rattle.mi_base.specs.Machine.{Machine, as_value}
use Rattle.mi_regval.specs.declared.error.ValueFault.{ValueFault}
use Rattle.mi_regval.specs.Values.{value_of}
use Rattle.mi_schema.specs.declared.typed_rows.RegistryRow.{RegistryRow}
use Rattle.mi_model.specs.Texts.{Text}
use Rattle.mi_base.specs.declared.answers.Fault.{Fault}
use Rattle.mi_base.specs.declared.answers.Fault.TheVariants.{BadValue}
use Rattle.mi_model.specs.World.{World, RowEffect, Effect}
use Rattle.mi_schema.specs.TableRows.{Numbered, component_row_of}
use Rattle.mi_changes.specs.Touches.{Touch, Set}
use Rattle.mi_model.specs.Asked.{comes, lookups}
use Rattle.mi_model.specs.States.{is_present}
use Rattle.mi_model.specs.Refusals.{◌>>=◌, size_fault, unless}
use Rattle.mi_model.specs.Parents.{key_with_parents}
use Rattle.mi_model.specs.RegistryRows.{RegistryPlace, RegistryMeaning, Says, Removes, Writes, name_of_value, root_of, registry_meaning}
use Rattle.mi_model.specs.ComponentRows.{has_mode, rows_that}

-- ---- which rows

-- the user's roots, HKEY_CURRENT_USER and HKEY_USERS
abbrev pub is_of_user : ℕ → Bool
is_of_user root = (root == 1) || (root == 3)

abbrev pub was_present : World → RegistryRow → Bool
was_present w r = option_map_or (is_present w.given) (component_row_of w.given.rows r.component) false

-- where the component was present, REINSTALLMODE asks for values of the root by its letter
abbrev pub is_asked_anew : World → RegistryRow → Bool
is_asked_anew w r = if is_of_user (root_of (lookups w) r.root) then has_mode (λ mode. mode.u) w else has_mode (λ mode. mode.m) w

abbrev pub is_written : World → Numbered RegistryRow → Bool
is_written w r = not (was_present w r.row) || is_asked_anew w r.row

unfoldable pub written_rows : World → List (Numbered RegistryRow)
written_rows w = filter (is_written w) (rows_that (λ (r : RegistryRow). r.registry) (λ (r : RegistryRow). r.component) (comes w) w.given.rows.registry)

-- ---- what a row writes

-- the value that stands at a name
abbrev pub old_value : Option Entry → Option RegValue
old_value old = option_map (λ v. v.1) (as_value old)

abbrev pub value_entry : RegistryPlace → RegValue → Entry
value_entry p v = entry.Value (record { root = p.root; key = folded p.key; shown = p.name }) v

-- what a text makes of what stood there; nothing where the text is refused
abbrev pub value_after : RegistryPlace → Text → Option Entry → Option Entry
value_after p text old = option_map (value_entry p) (result_ok (value_of text (old_value old)))

-- what a row touches: its key, which is made, and its value
abbrev pub place_touches : RegistryPlace → Says → List (Touch Entry)
place_touches p Removes = []
place_touches p (Writes text) = key_with_parents p.root p.key ++ Set (name_of_value p) (value_after p text) ∷ []
place_touches p other = key_with_parents p.root p.key

abbrev pub meaning_touches : RegistryMeaning → List (Touch Entry)
meaning_touches r = place_touches r.place r.says

-- ---- refusals of a value

-- what a text stands for: it is no value, or one past the limits
abbrev pub read_fault : RegistryPlace → ℕ → Result RegValue ValueFault → Option Fault
read_fault p row (Ok v) = size_fault (codes "Registry") row (value_entry p v)
read_fault p row (Err fault) = Some (BadValue (codes "Registry") row)

-- over what the earlier rows left
abbrev pub written_fault : Machine → ℕ → RegistryPlace → Says → Option Fault
written_fault m row p (Writes text) = read_fault p row (value_of text (old_value (get m (name_of_value p))))
written_fault m row p other = None

abbrev pub value_fault : Machine → ℕ → RegistryMeaning → Option Fault
value_fault m row r = written_fault m row r.place r.says

-- ---- the phase

unfoldable pub write_row : World → Numbered RegistryRow → RowEffect
write_row w r m = registry_meaning (lookups w) r >>= λ meaning. unless (value_fault m r.number meaning) (Ok (meaning_touches meaning))

unfoldable pub write_registry_values : Effect
write_registry_values w = Ok (map (write_row w) (written_rows w))
