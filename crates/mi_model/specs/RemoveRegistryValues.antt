-- RemoveRegistryValues. (RemoveRegistryValues Action; Registry Table; RemoveRegistry Table. That a leaving row takes its own items out of
-- a list is this project's own.)
use Rattle.std.specs.Prelude.{ℕ, Bool, if◌then◌else◌, List, [], ◌∷◌, ◌++◌, map, codes, Option, Some, None, option_map, Result, Ok}
use Rattle.std.specs.List.{filter_map}
use Rattle.std.specs.Result.{result_ok}
use Rattle.std.specs.Str.{bytes_eq}
use Rattle.std.specs.FinMap.{keys}
use Rattle.mi_text.specs.Maps.{Name}
use Rattle.mi_base.specs.declared.entry.Entry.{Entry}
use Rattle.mi_base.specs.declared.entry.Entry.TheVariants as entry
use Rattle.mi_base.specs.declared.entry.ValueKey.{ValueKey}
use Rattle.mi_base.specs.declared.entry.RegValue.TheVariants as value
use Rattle.mi_schema.specs.declared.typed_rows.RegistryRow.{RegistryRow}
use Rattle.mi_schema.specs.declared.typed_rows.RemoveRegistryRow.{RemoveRegistryRow}
use Rattle.mi_model.specs.Texts.{Text}
use Rattle.mi_base.specs.declared.answers.Fault.{Fault}
use Rattle.mi_model.specs.World.{World, RowEffect, Effect}
use Rattle.mi_schema.specs.TableRows.{Numbered}
use Rattle.mi_changes.specs.Touches.{Touch, Set}
use Rattle.mi_model.specs.Asked.{leaves, lookups}
use Rattle.mi_model.specs.Refusals.{◌>>=◌}
use Rattle.mi_model.specs.RegistryRows.{RegistryPlace, RegistryMeaning, Says, KeyAlone, Makes, Removes, MakesAndRemoves, Writes, name_of_value, registry_place, removal_place, registry_meaning}
use Rattle.mi_model.specs.RegistryGuards.{unguarded, takes_key, place_of_key, prune_keys}
use Rattle.mi_model.specs.CountRows.{is_guarded}
use Rattle.mi_model.specs.ComponentRows.{is_local, rows_that}
use Rattle.mi_regval.specs.ListTexts.{added_items}
use Rattle.mi_model.specs.ListItems.{without_items}
use Rattle.mi_model.specs.Prune.{Path}

-- ---- a value

-- a list with these items left; where none is left, it goes
abbrev pub of_items : ValueKey → List (List ℕ) → Option Entry
of_items key [] = None
of_items key (x ∷ xs) = Some (entry.Value key (value.List (x ∷ xs)))

-- without these items; a value that is no list stays
abbrev pub less_items : List (List ℕ) → Option Entry → Option Entry
less_items items (Some (entry.Value key (value.List old))) = of_items key (without_items items old)
less_items items old = old

-- a text that extends a list takes its items out, and any other text takes the value away
abbrev pub less_added : Option (List (List ℕ)) → Option Entry → Option Entry
less_added None old = None
less_added (Some items) old = less_items items old

unfoldable pub value_less : Text → Option Entry → Option Entry
value_less text old = less_added (added_items text) old

-- ---- the rows of Registry of leaving components

unfoldable pub leaving_rows : World → List (Numbered RegistryRow)
leaving_rows w = rows_that (λ (r : RegistryRow). r.registry) (λ (r : RegistryRow). r.component) (leaves w) w.given.rows.registry

-- what one takes, but for what is guarded, of the names that are held
abbrev pub taken_at : (Name → Bool) → RegistryPlace → List Name → Says → List (Touch Entry)
taken_at guarded p held KeyAlone = []
taken_at guarded p held Makes = []
taken_at guarded p held Removes = takes_key guarded p held
taken_at guarded p held MakesAndRemoves = takes_key guarded p held
taken_at guarded p held (Writes text) = if guarded (name_of_value p) then [] else Set (name_of_value p) (value_less text) ∷ []

abbrev pub removed_touches : (Name → Bool) → RegistryMeaning → List Name → List (Touch Entry)
removed_touches guarded r held = taken_at guarded r.place held r.says

unfoldable pub remove_row : World → Numbered RegistryRow → RowEffect
remove_row w r m = registry_meaning (lookups w) r >>= λ meaning. Ok (removed_touches (is_guarded w) meaning (keys m))

-- ---- the rows of RemoveRegistry of local components, which nothing guards

unfoldable pub removal_rows : World → List (Numbered RemoveRegistryRow)
removal_rows w = rows_that (λ (r : RemoveRegistryRow). r.remove_registry) (λ (r : RemoveRegistryRow). r.component) (is_local w) w.given.rows.remove_registry

-- the Name `-` takes the key and all below, any other the value
abbrev pub removal_touches : RegistryPlace → List Name → List (Touch Entry)
removal_touches p held = if bytes_eq p.name (codes "-") then takes_key unguarded p held else Set (name_of_value p) (λ old. None) ∷ []

unfoldable pub removal_row : World → Numbered RemoveRegistryRow → RowEffect
removal_row w r m = removal_place (lookups w) r >>= λ p. Ok (removal_touches p (keys m))

-- ---- the phase

-- the keys that these rows name
abbrev pub keys_named : {R : Type 0} → (R → Result RegistryPlace Fault) → List R → List Path
keys_named place rows = filter_map (λ r. option_map place_of_key (result_ok (place r))) rows

abbrev pub touched_keys : World → List Path
touched_keys w = keys_named (registry_place (lookups w)) (leaving_rows w) ++ keys_named (removal_place (lookups w)) (removal_rows w)

unfoldable pub remove_registry_values : Effect
remove_registry_values w = Ok (map (remove_row w) (leaving_rows w) ++ map (removal_row w) (removal_rows w) ++ prune_keys w (touched_keys w) ∷ [])
