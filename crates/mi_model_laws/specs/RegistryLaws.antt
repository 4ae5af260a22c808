-- What the phases of the registry leave, value by value and key by key. (WriteRegistryValues Action; RemoveRegistryValues Action.)
use Rattle.std.specs.Prelude.{◌≡◌, ℕ, Bool, if◌then◌else◌, List, [], flat_map, map, codes, Option, None, Result, Ok, Err}
use Rattle.std.specs.Option.{option_or}
use Rattle.std.specs.Str.{bytes_eq}
use Rattle.std.specs.FinMap.{get, keys}
use Rattle.mi_text.specs.Maps.{Name, same_name}
use Rattle.mi_base.specs.declared.entry.Entry.{Entry}
use Rattle.mi_base.specs.declared.entry.Entry.TheVariants as entry
use Rattle.mi_base.specs.declared.answers.Fault.{Fault}
use Rattle.mi_base.specs.Machine.{Machine}
use Rattle.mi_base.specs.Names.{key_name, value_name}
use Rattle.mi_model.specs.Texts.{Text}
use Rattle.mi_model.specs.World.{World}
use Rattle.mi_model.specs.Asked.{lookups}
use Rattle.mi_model.specs.PhaseRows.{Touches, after_rows, by_rows}
use Rattle.mi_model.specs.Parents.{keys_down_to}
use Rattle.mi_model.specs.RegistryRows.{RegistryPlace, RegistryMeaning, Says, KeyAlone, Makes, Removes, MakesAndRemoves, Writes, name_of_value, removal_place, registry_meaning}
use Rattle.mi_model.specs.RegistryGuards.{unguarded, goes_with_key, place_of_key, kept_keys}
use Rattle.mi_model.specs.CountRows.{is_guarded}
use Rattle.mi_model.specs.WriteRegistryValues.{written_rows, value_after, write_registry_values}
use Rattle.mi_model.specs.RemoveRegistryValues.{leaving_rows, removal_rows, value_less, touched_keys, remove_row, removal_row, remove_registry_values}
use Rattle.mi_model.specs.Prune.{goes, key_seat}
use Rattle.mi_model_laws.specs.PhaseLaws.{IsAfter, in_turn, first_named}

-- ---- WriteRegistryValues: at each value the rows that name it, in key order, over what stood there

abbrev pub says_written : Name → RegistryPlace → Says → Option Entry → Option Entry
says_written q p (Writes text) old = if same_name q (name_of_value p) then value_after p text old else old
says_written q p other old = old

abbrev pub written_by : Name → Result RegistryMeaning Fault → Option Entry → Option Entry
written_by q (Err fault) old = old
written_by q (Ok r) old = says_written q r.place r.says old

abbrev pub values_after_write : World → Name → Option Entry → Option Entry
values_after_write w q old = in_turn (λ r. written_by q (registry_meaning (lookups w) r)) (written_rows w) old

-- the keys that a row makes
abbrev pub says_keys : RegistryPlace → Says → List Entry
says_keys p Removes = []
says_keys p other = map (entry.Key p.root) (keys_down_to p.key)

abbrev pub keys_of_row : Result RegistryMeaning Fault → List Entry
keys_of_row (Err fault) = []
keys_of_row (Ok r) = says_keys r.place r.says

-- a key that stands stays as it is shown, and a missing one is shown as by the first row that makes it
abbrev pub keys_after_write : World → Name → Option Entry → Option Entry
keys_after_write w q old = option_or old (first_named q (flat_map (λ r. keys_of_row (registry_meaning (lookups w) r)) (written_rows w)))

pub record WritesValues : Type 0 where
  pub values : (w : World) (m : Machine) → IsAfter write_registry_values w m → (root : ℕ) (key name : Text) →
      get m (value_name root key name) ≡ values_after_write w (value_name root key name) (get w.machine (value_name root key name))
  pub keys : (w : World) (m : Machine) → IsAfter write_registry_values w m → (root : ℕ) (key : Text) →
      get m (key_name root key) ≡ keys_after_write w (key_name root key) (get w.machine (key_name root key))

-- ---- RemoveRegistryValues: the rows of Registry, then those of RemoveRegistry, each in key order

-- a value goes with a key, whatever else is held
abbrev pub goes_with : (Name → Bool) → RegistryPlace → Name → Bool
goes_with guarded p q = goes_with_key guarded [] (place_of_key p) q

abbrev pub says_removed : (Name → Bool) → Name → RegistryPlace → Says → Option Entry → Option Entry
says_removed guarded q p KeyAlone old = old
says_removed guarded q p Makes old = old
says_removed guarded q p Removes old = if goes_with guarded p q then None else old
says_removed guarded q p MakesAndRemoves old = if goes_with guarded p q then None else old
says_removed guarded q p (Writes text) old = if same_name q (name_of_value p) then (if guarded q then old else value_less text old) else old

abbrev pub removed_by : (Name → Bool) → Name → Result RegistryMeaning Fault → Option Entry → Option Entry
removed_by guarded q (Err fault) old = old
removed_by guarded q (Ok r) old = says_removed guarded q r.place r.says old

abbrev pub taken_by : Name → Result RegistryPlace Fault → Option Entry → Option Entry
taken_by q (Err fault) old = old
taken_by q (Ok p) old =
    if bytes_eq p.name (codes "-") then (if goes_with unguarded p q then None else old)
    else if same_name q (name_of_value p) then None
    else old

abbrev pub values_after_remove : World → Name → Option Entry → Option Entry
values_after_remove w q old =
    in_turn (λ r. taken_by q (removal_place (lookups w) r)) (removal_rows w)
    (in_turn (λ r. removed_by (is_guarded w) q (registry_meaning (lookups w) r)) (leaving_rows w) old)

-- the machine after the rows, before the pruning
pub record IsBeforePruning (w : World) (m : Machine) : Type 0 where
  pub rows : List Touches
  pub touched : by_rows w.machine (map (remove_row w) (leaving_rows w)) ≡ Ok rows
  pub more : List Touches
  pub taken : by_rows (after_rows w.machine rows) (map (removal_row w) (removal_rows w)) ≡ Ok more
  pub machine : m ≡ after_rows (after_rows w.machine rows) more

pub record RemovesValues : Type 0 where
  pub values : (w : World) (m : Machine) → IsAfter remove_registry_values w m → (root : ℕ) (key name : Text) →
      get m (value_name root key name) ≡ values_after_remove w (value_name root key name) (get w.machine (value_name root key name))
  -- of the keys that stand before the pruning those that it takes go
  pub keys : (w : World) (m : Machine) → IsAfter remove_registry_values w m →
      (n : Machine) × IsBeforePruning w n × ((root : ℕ) (key : Text) →
      get m (key_name root key) ≡ (if goes key_seat (keys n) (touched_keys w) (kept_keys w) (key_name root key) then None else get n (key_name root key)))
