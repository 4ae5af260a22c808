-- The rows of WriteRegistryValues and RemoveRegistryValues are plain.
use Rattle.std.proofs.Common.{Bool, List, [], ◌∷◌, ◌++◌, map, codes, None, refl}
use Rattle.std.specs.Prelude.{Ok}
use Rattle.std.specs.Str.{bytes_eq}
use Rattle.std.specs.FinMap.{keys}
use Rattle.mi_text.specs.Maps.{Name}
use Rattle.mi_base.specs.Names.{value_name}
use Rattle.mi_schema.specs.TableRows.{Numbered}
use Rattle.mi_schema.specs.declared.typed_rows.RegistryRow.{RegistryRow}
use Rattle.mi_schema.specs.declared.typed_rows.RemoveRegistryRow.{RemoveRegistryRow}
use Rattle.mi_changes.specs.Touches.{Set}
use Rattle.mi_model.specs.World.{World}
use Rattle.mi_model.specs.Asked.{lookups}
use Rattle.mi_model.specs.Prune.{key_seat}
use Rattle.mi_model.specs.RegistryRows.{RegistryPlace, Says, KeyAlone, Makes, Removes, MakesAndRemoves, Writes, name_of_value, removal_place, registry_meaning}
use Rattle.mi_model.specs.RegistryGuards.{unguarded, goes_with_key, place_of_key, takes_key, kept_keys, prune_keys}
use Rattle.mi_model.specs.CountRows.{is_guarded}
use Rattle.mi_model.specs.WriteRegistryValues.{written_rows, value_after, place_touches, meaning_touches, value_fault, write_row, write_registry_values}
use Rattle.mi_model.specs.RemoveRegistryValues.{value_less, leaving_rows, taken_at, remove_row, removal_rows, removal_row, touched_keys, remove_registry_values}
use Rattle.mi_laws.proofs.PlainCountLemmas.{AreOnce, none_once, one_once, clear_once}
use Rattle.mi_laws.proofs.PlainParentLemmas.{keys_of, value_in_key}
use Rattle.mi_laws.proofs.PlainRowLemmas.{behind, unrefused, chosen, IsPlainRow, IsPlainPhase, each_plain, and_plain, pruning_plain}

-- ---- WriteRegistryValues

written_once : (p : RegistryPlace) (says : Says) → AreOnce (place_touches p says)
unfolding value_name
written_once p KeyAlone = (keys_of p.root p.key).once
written_once p Makes = (keys_of p.root p.key).once
written_once p Removes = none_once
written_once p MakesAndRemoves = (keys_of p.root p.key).once
written_once p (Writes text) = (value_in_key p.root p.key (name_of_value p) (value_after p text) refl).once

write_row_plain : (w : World) (r : Numbered RegistryRow) → IsPlainRow (write_row w r)
unfolding write_row
write_row_plain w r m =
    behind AreOnce (registry_meaning (lookups w) r) _ (λ meaning.
    unrefused AreOnce (value_fault m r.number meaning) (Ok (meaning_touches meaning)) (written_once meaning.place meaning.says))

pub write_registry_values_plain : IsPlainPhase write_registry_values
unfolding write_registry_values
write_registry_values_plain w code = each_plain (write_row w) (written_rows w) (write_row_plain w)

-- ---- RemoveRegistryValues

key_once : (guarded : Name → Bool) (p : RegistryPlace) (held : List Name) → AreOnce (takes_key guarded p held)
key_once guarded p held = clear_once (goes_with_key guarded held (place_of_key p))

taken_once : (guarded : Name → Bool) (p : RegistryPlace) (held : List Name) (says : Says) → AreOnce (taken_at guarded p held says)
taken_once guarded p held KeyAlone = none_once
taken_once guarded p held Makes = none_once
taken_once guarded p held Removes = key_once guarded p held
taken_once guarded p held MakesAndRemoves = key_once guarded p held
taken_once guarded p held (Writes text) = chosen AreOnce (guarded (name_of_value p)) [] (Set (name_of_value p) (value_less text) ∷ []) none_once (one_once (name_of_value p) (value_less text))

remove_row_plain : (w : World) (r : Numbered RegistryRow) → IsPlainRow (remove_row w r)
unfolding remove_row
remove_row_plain w r m = behind AreOnce (registry_meaning (lookups w) r) _ (λ meaning. taken_once (is_guarded w) meaning.place (keys m) meaning.says)

removal_row_plain : (w : World) (r : Numbered RemoveRegistryRow) → IsPlainRow (removal_row w r)
unfolding removal_row
removal_row_plain w r m = behind AreOnce (removal_place (lookups w) r) _ (λ p.
    chosen AreOnce (bytes_eq p.name (codes "-")) (takes_key unguarded p (keys m)) (Set (name_of_value p) (λ old. None) ∷ []) (key_once unguarded p (keys m)) (one_once (name_of_value p) (λ old. None)))

pub remove_registry_values_plain : IsPlainPhase remove_registry_values
unfolding remove_registry_values prune_keys
remove_registry_values_plain w code =
    and_plain (map (remove_row w) (leaving_rows w) ++ map (removal_row w) (removal_rows w)) (prune_keys w (touched_keys w) ∷ [])
    (and_plain (map (remove_row w) (leaving_rows w)) (map (removal_row w) (removal_rows w))
    (each_plain (remove_row w) (leaving_rows w) (remove_row_plain w)) (each_plain (removal_row w) (removal_rows w) (removal_row_plain w)))
    (pruning_plain key_seat (touched_keys w) (kept_keys w), tt)
