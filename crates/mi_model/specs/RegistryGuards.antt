-- What leaving rows of Registry leave in place: guarded values, and the keys that are kept. (RemoveRegistryValues Action; Registry Table.
-- Guards and the pruning of keys are this project's own.)
use Rattle.std.specs.Prelude.{◌&&◌, not, Bool, true, false, if◌then◌else◌, List, [], ◌∷◌, nat_eq, Option, Some, None, option_map, option_and_then}
use Rattle.std.specs.List.{list_any, filter_map, starts_with}
use Rattle.std.specs.Result.{result_ok}
use Rattle.mi_text.specs.Maps.{Name}
use Rattle.mi_schema.specs.declared.typed_rows.RegistryRow.{RegistryRow}
use Rattle.mi_model.specs.World.{World, RowEffect}
use Rattle.mi_schema.specs.TableRows.{Numbered, numbered_from}
use Rattle.mi_changes.specs.Touches.{Touch, Clear}
use Rattle.mi_model.specs.Asked.{keeps, lookups}
use Rattle.mi_model.specs.RegistryRows.{RegistryPlace, RegistryMeaning, Says, Makes, MakesAndRemoves, name_of_value, registry_place, registry_meaning}
use Rattle.mi_model.specs.ComponentRows.{is_guarded_by}
use Rattle.mi_model.specs.Prune.{Path, Seat, Holder, Leaf, Apart, key_place, key_seat, pruning}
use Rattle.mi_base.specs.declared.entry.Entry.{Entry}

-- ---- guards

-- the value that a row of Registry names; one whose text is refused names none
abbrev pub value_named : World → Numbered RegistryRow → Option Name
value_named w r = option_map name_of_value (result_ok (registry_place (lookups w) r))

-- a row of a kept component names this value
unfoldable pub is_guarded_value : World → Name → Bool
is_guarded_value w name = is_guarded_by w (λ (r : RegistryRow). r.component) (value_named w) w.given.rows.registry name

abbrev pub unguarded : Name → Bool
unguarded name = false

-- ---- a key with all that is below it

-- a value at a key or below it
abbrev pub is_value_at : Path → Seat → Bool
is_value_at key (Leaf path) = starts_with nat_eq path key
is_value_at key other = false

-- What goes with a key: the values at and below it that aren't guarded, and the keys there that have no guarded value at or below them.
abbrev pub seat_goes_with_key : (Name → Bool) → List Name → Path → Name → Seat → Bool
seat_goes_with_key guarded held key name (Leaf path) = starts_with nat_eq path key && not (guarded name)
seat_goes_with_key guarded held key name (Holder path) = starts_with nat_eq path key && not (list_any (λ other. guarded other && is_value_at path (key_seat other)) held)
seat_goes_with_key guarded held key name Apart = false

unfoldable pub goes_with_key : (Name → Bool) → List Name → Path → Name → Bool
goes_with_key guarded held key name = seat_goes_with_key guarded held key name (key_seat name)

abbrev pub place_of_key : RegistryPlace → Path
place_of_key p = key_place p.root p.key

abbrev pub takes_key : (Name → Bool) → RegistryPlace → List Name → List (Touch Entry)
takes_key guarded p held = Clear (goes_with_key guarded held (place_of_key p)) ∷ []

-- ---- pruning

-- the keys of the rows `+` and `*` of kept components
abbrev pub keeps_key : Says → Bool
keeps_key Makes = true
keeps_key MakesAndRemoves = true
keeps_key other = false

abbrev pub key_kept_by : RegistryMeaning → Option Path
key_kept_by r = if keeps_key r.says then Some (place_of_key r.place) else None

abbrev pub kept_key : World → Numbered RegistryRow → Option Path
kept_key w r = if keeps w r.row.component then option_and_then key_kept_by (result_ok (registry_meaning (lookups w) r)) else None

abbrev pub kept_keys : World → List Path
kept_keys w = filter_map (kept_key w) (numbered_from 1 w.given.rows.registry)

-- what goes of the keys where a phase touched these
unfoldable pub prune_keys : World → List Path → RowEffect
prune_keys w touched = pruning key_seat touched (kept_keys w)
