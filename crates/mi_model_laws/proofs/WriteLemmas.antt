-- The values and keys that WriteRegistryValues leaves.
use Rattle.std.proofs.Common.{◌≡◌, List, Option, refl, sym, ap, ◌∙◌}
use Rattle.std.specs.Prelude.{ℕ, Ok}
use Rattle.std.specs.Option.{option_or}
use Rattle.std.specs.FinMap.{get}
use Rattle.mi_base.specs.declared.entry.Entry.{Entry}
use Rattle.mi_base.specs.Machine.{Machine}
use Rattle.mi_base.specs.Names.{key_name, value_name}
use Rattle.mi_schema.specs.TableRows.{Numbered}
use Rattle.mi_schema.specs.declared.typed_rows.RegistryRow.{RegistryRow}
use Rattle.mi_changes.specs.Touches.{Touch, left_at}
use Rattle.mi_model.specs.Texts.{Text}
use Rattle.mi_model.specs.World.{World}
use Rattle.mi_model.specs.Asked.{lookups}
use Rattle.mi_model.specs.Refusals.{unless}
use Rattle.mi_model.specs.RegistryRows.{RegistryPlace, Says, KeyAlone, Makes, Removes, MakesAndRemoves, Writes, name_of_value, registry_meaning}
use Rattle.mi_model.specs.WriteRegistryValues.{written_rows, value_after, place_touches, meaning_touches, value_fault, write_row, write_registry_values}
use Rattle.mi_model_laws.specs.PhaseLaws.{IsAfter, first_named}
use Rattle.mi_model_laws.specs.RegistryLaws.{says_written, written_by, values_after_write, says_keys, keys_of_row, keys_after_write}
use Rattle.mi_model_laws.proofs.RowLemmas.{from_ok, bound, unrefused, Acts, get-in_turn, made_in_turn}
use Rattle.mi_model_laws.proofs.ParentLemmas.{or_nothing, IsNoKey, keys_elsewhere, keys_made, set_in_key, keys_of_set}

value_is_no_key : (root : ℕ) (key name : Text) → IsNoKey (value_name root key name)
unfolding value_name key_name
value_is_no_key root key name r k = refl

-- what a row touches, at a value
value_at : (root : ℕ) (key name : Text) (p : RegistryPlace) (says : Says) (old : Option Entry) → left_at (value_name root key name) (place_touches p says) old ≡ says_written (value_name root key name) p says old
value_at root key name p Removes old = refl
value_at root key name p KeyAlone old = keys_elsewhere (value_name root key name) p.root p.key old (value_is_no_key root key name)
value_at root key name p Makes old = keys_elsewhere (value_name root key name) p.root p.key old (value_is_no_key root key name)
value_at root key name p MakesAndRemoves old = keys_elsewhere (value_name root key name) p.root p.key old (value_is_no_key root key name)
value_at root key name p (Writes text) old = set_in_key (value_name root key name) (name_of_value p) (value_after p text) p.root p.key old (value_is_no_key root key name)

pub value_acts : (w : World) (root : ℕ) (key name : Text) (r : Numbered RegistryRow) → Acts (value_name root key name) (write_row w r) (written_by (value_name root key name) (registry_meaning (lookups w) r))
unfolding write_row
value_acts w root key name r m ts e old =
    let q = value_name root key name in
    let read = bound (registry_meaning (lookups w) r) (λ meaning. unless (value_fault m r.number meaning) (Ok (meaning_touches meaning))) ts e in
    let fine = unrefused (value_fault m r.number read.value) (Ok (meaning_touches read.value)) ts read.rest in
    ap (λ (ts : List (Touch Entry)). left_at q ts old) (sym (from_ok (meaning_touches read.value) ts fine.is))
    ∙ value_at root key name read.value.place read.value.says old
    ∙ ap (λ r. written_by q r old) (sym read.is)

pub values_are_written : (w : World) (m : Machine) → IsAfter write_registry_values w m → (root : ℕ) (key name : Text) →
    get m (value_name root key name) ≡ values_after_write w (value_name root key name) (get w.machine (value_name root key name))
unfolding write_registry_values
values_are_written w m after root key name =
    let q = value_name root key name in
    ap (λ n. get n q) after.machine
    ∙ get-in_turn q (write_row w) (λ r. written_by q (registry_meaning (lookups w) r)) (written_rows w) w.machine after.rows (value_acts w root key name) after.touched

-- and at a key
key_at : (root : ℕ) (key : Text) (p : RegistryPlace) (says : Says) (old : Option Entry) → left_at (key_name root key) (place_touches p says) old ≡ option_or old (first_named (key_name root key) (says_keys p says))
unfolding key_name value_name
key_at root key p Removes old = sym (or_nothing old)
key_at root key p KeyAlone old = keys_made (key_name root key) p.root p.key old
key_at root key p Makes old = keys_made (key_name root key) p.root p.key old
key_at root key p MakesAndRemoves old = keys_made (key_name root key) p.root p.key old
key_at root key p (Writes text) old = keys_of_set (key_name root key) (name_of_value p) (value_after p text) p.root p.key old refl

key_acts : (w : World) (root : ℕ) (key : Text) (r : Numbered RegistryRow) → Acts (key_name root key) (write_row w r) (λ old. option_or old (first_named (key_name root key) (keys_of_row (registry_meaning (lookups w) r))))
unfolding write_row
key_acts w root key r m ts e old =
    let q = key_name root key in
    let read = bound (registry_meaning (lookups w) r) (λ meaning. unless (value_fault m r.number meaning) (Ok (meaning_touches meaning))) ts e in
    let fine = unrefused (value_fault m r.number read.value) (Ok (meaning_touches read.value)) ts read.rest in
    ap (λ (ts : List (Touch Entry)). left_at q ts old) (sym (from_ok (meaning_touches read.value) ts fine.is))
    ∙ key_at root key read.value.place read.value.says old
    ∙ ap (λ r. option_or old (first_named q (keys_of_row r))) (sym read.is)

pub keys_are_made : (w : World) (m : Machine) → IsAfter write_registry_values w m → (root : ℕ) (key : Text) →
    get m (key_name root key) ≡ keys_after_write w (key_name root key) (get w.machine (key_name root key))
unfolding write_registry_values
keys_are_made w m after root key =
    let q = key_name root key in
    let entries = λ (r : Numbered RegistryRow). keys_of_row (registry_meaning (lookups w) r) in
    ap (λ n. get n q) after.machine
    ∙ get-in_turn q (write_row w) (λ r old. option_or old (first_named q (entries r))) (written_rows w) w.machine after.rows (key_acts w root key) after.touched
    ∙ made_in_turn q entries (written_rows w) (get w.machine q)
