-- The rows of the phases of shortcuts, variables and the product are plain.
use Rattle.std.proofs.Common.{[], ◌∷◌, map, Some, None, refl}
use Rattle.std.specs.Prelude.{◌&&◌, Ok, IfOk}
use Rattle.mi_base.specs.declared.entry.Entry.{Entry}
use Rattle.mi_base.specs.Machine.{as_variable}
use Rattle.mi_base.specs.Names.{shortcut_name, product_name}
use Rattle.mi_schema.specs.TableRows.{Numbered, product_code}
use Rattle.mi_schema.specs.declared.typed_rows.ShortcutRow.{ShortcutRow}
use Rattle.mi_schema.specs.declared.typed_rows.EnvironmentRow.{EnvironmentRow}
use Rattle.mi_changes.specs.Touches.{Set}
use Rattle.mi_model.specs.Texts.{Text}
use Rattle.mi_model.specs.World.{World}
use Rattle.mi_model.specs.Asked.{leaves, lookups, chosen as chosen_features}
use Rattle.mi_model.specs.Refusals.{expanded_or_empty, size_fault}
use Rattle.mi_model.specs.Shortcuts as shortcut
use Rattle.mi_model.specs.Shortcuts.{shortcut_table, path_or_refused, target_text, shortcut_entry, shortcut_touches, created_touches, create_shortcuts, is_guarded_shortcut, without_shortcut, removed_shortcut, leaving_shortcuts, remove_shortcuts}
use Rattle.mi_model.specs.EnvironmentRows.{Form, named_variable, environment_form}
use Rattle.mi_model.specs.WriteEnvironmentStrings.{variable_after, variable_fault, write_string, write_environment_strings}
use Rattle.mi_model.specs.RemoveEnvironmentStrings.{removing_rows, variable_less, is_guarded_variable, string_touches, remove_string, remove_environment_strings}
use Rattle.mi_model.specs.PublishProduct.{product_after, publish_product}
use Rattle.mi_laws.proofs.PlainCountLemmas.{AreOnce, none_once, one_once}
use Rattle.mi_laws.proofs.PlainParentLemmas.{once_in_folder}
use Rattle.mi_laws.proofs.PlainRowLemmas.{behind, unrefused, chosen, IsPlainRow, IsPlainPhase, each_plain}
use Rattle.mi_laws.proofs.PlainFileLemmas.{pruned_plain}

-- ---- shortcuts

shortcut_once : (path : Text) (e : Entry) → AreOnce (shortcut_touches path e)
unfolding shortcut_name
shortcut_once path e = once_in_folder 115 path (shortcut_name path) (λ old. Some e) refl refl

created_once : (w : World) (r : Numbered ShortcutRow) → IfOk (created_touches w r) AreOnce
unfolding created_touches
created_once w r =
    behind AreOnce (path_or_refused w r) _ (λ path.
    behind AreOnce (target_text w r) _ (λ target.
    behind AreOnce (expanded_or_empty (lookups w) shortcut_table r.number r.row.arguments) _ (λ arguments.
    let e = shortcut_entry w r.row path target arguments in unrefused AreOnce (size_fault shortcut_table r.number e) (Ok (shortcut_touches path e)) (shortcut_once path e))))

pub create_shortcuts_plain : IsPlainPhase create_shortcuts
unfolding create_shortcuts
create_shortcuts_plain w code = each_plain (λ r m. created_touches w r) _ (λ r m. created_once w r)

removed_once : (w : World) (r : Numbered ShortcutRow) → IfOk (removed_shortcut w r) AreOnce
unfolding removed_shortcut
removed_once w r = behind AreOnce (path_or_refused w r) _ (λ path.
    chosen AreOnce (is_guarded_shortcut w (shortcut_name path)) [] (Set (shortcut_name path) (λ old. None) ∷ []) none_once (one_once (shortcut_name path) (λ old. None)))

pub remove_shortcuts_plain : IsPlainPhase remove_shortcuts
unfolding remove_shortcuts
remove_shortcuts_plain w code = pruned_plain w (map (λ r m. removed_shortcut w r) (leaving_shortcuts w)) (shortcut.touched_folders w) (each_plain (λ r m. removed_shortcut w r) (leaving_shortcuts w) (λ r m. removed_once w r))

-- ---- variables

write_string_plain : (w : World) (r : Numbered EnvironmentRow) → IsPlainRow (write_string w r)
unfolding write_string
write_string_plain w r m = behind AreOnce (environment_form (lookups w) r) _ (λ form.
    unrefused AreOnce (variable_fault m r.number r.row.name form) (Ok (Set (named_variable r.row.name) (variable_after r.row.name form) ∷ []))
    (one_once (named_variable r.row.name) (variable_after r.row.name form)))

pub write_environment_strings_plain : IsPlainPhase write_environment_strings
unfolding write_environment_strings
write_environment_strings_plain w code = each_plain (write_string w) _ (write_string_plain w)

string_once : (w : World) (r : EnvironmentRow) (form : Form) → AreOnce (string_touches w r form)
unfolding string_touches
string_once w r form =
    chosen AreOnce (leaves w r.component && is_guarded_variable w (named_variable r.name)) [] (Set (named_variable r.name) (λ old. variable_less (leaves w r.component) form (as_variable old)) ∷ [])
    none_once (one_once (named_variable r.name) (λ old. variable_less (leaves w r.component) form (as_variable old)))

remove_string_plain : (w : World) (r : Numbered EnvironmentRow) → IsPlainRow (remove_string w r)
unfolding remove_string
remove_string_plain w r m = behind AreOnce (environment_form (lookups w) r) _ (λ form. string_once w r.row form)

pub remove_environment_strings_plain : IsPlainPhase remove_environment_strings
unfolding remove_environment_strings
remove_environment_strings_plain w code = each_plain (remove_string w) (removing_rows w) (remove_string_plain w)

-- ---- the product

pub publish_product_plain : IsPlainPhase publish_product
unfolding publish_product
publish_product_plain w code = (λ m. one_once (product_name (product_code w.given.rows)) (λ old. product_after w.given.rows (chosen_features w (λ s. s.local_after))), tt)
