-- Client rows go by components that are made Absent alone.
use Rattle.std.proofs.Common.{◌≡◌, Bool, true, false, cond, [], ◌∷◌, Option, Some, None, refl, sym, ap, subst, ◌∙◌}
use Rattle.std.specs.Prelude.{◌&&◌, nat_eq, codes, Result, Ok, Err}
use Rattle.std.specs.List.{starts_with, AllByRecursion}
use Rattle.std.specs.Option.{option_map_or}
use Rattle.mi_text.specs.Maps.{Name, same_name}
use Rattle.mi_text.specs.declared.guid.Guid.{Guid}
use Rattle.mi_base.specs.declared.answers.Fault.{Fault}
use Rattle.mi_base.specs.declared.entry.Entry.{Entry}
use Rattle.mi_base.specs.Names.{client_name}
use Rattle.mi_schema.specs.TableRows.{Numbered, product_code}
use Rattle.mi_schema.specs.declared.typed_rows.ComponentRow.{ComponentRow}
use Rattle.mi_model.specs.Texts.{Text}
use Rattle.mi_model.specs.World.{World, Action, MakeLocal, MakeAbsent}
use Rattle.mi_model.specs.Conditions.{has}
use Rattle.mi_model.specs.ComponentRows.{action_in}
use Rattle.mi_model.specs.Components.{is_made_absent}
use Rattle.mi_model.specs.ClientRows.{recorded_path, the_system, client}
use Rattle.mi_model.specs.ProcessComponents.{process_components}
use Rattle.mi_model_laws.specs.PhaseLaws.{in_turn}
use Rattle.mi_model_laws.specs.RecordLaws.{client_made, client_after, client_by, component_rows}
use Rattle.mi_model_laws.proofs.CountLemmas.{clients_are_processed, others_are_kept}
use Rattle.mi_model_laws.proofs.OnlyLemmas.{phases_change_only}
use Rattle.mi_model_laws.specs.OnlyLaws.{files_and_folders, shortcuts_and_folders}
use Rattle.mi_laws.specs.ValueLaws.{Goes}
use Rattle.mi_laws.specs.ClientLaws.{is_client_of, is_client_of_absent, KeepsClients, phases_but_clients, ClientsGoByAbsence}
use Rattle.mi_laws.proofs.StandLemmas.{Stands, else_true, stays, no_client_in}

both_stand : (a b : Bool) (x y z : Entry) → Stands (cond a (Some x) (cond b (Some y) (Some z)))
both_stand true b x y z = tt
both_stand false true x y z = tt
both_stand false false x y z = tt

made_stands : (w : World) (c : ComponentRow) (id : Guid) (q : Name) (path : Result Text Fault) (e : Entry) → Stands (client_made w c id q path (Some e))
made_stands w c id q (Ok path) e =
    both_stand (has 16 c.attributes && same_name q (client_name id.number the_system)) (same_name q (client_name id.number (product_code w.given.rows))) (client id the_system path) (client id (product_code w.given.rows) path) e
made_stands w c id q (Err fault) e = tt

unless_same : (same : Bool) (e : Entry) → same ≡ false → Stands (cond same None (Some e))
unless_same true e none = cc
unless_same false e none = tt

after_stands : (w : World) (c : ComponentRow) (id : Guid) (q : Name) (action : Option Action) (e : Entry)
    → (is_made_absent action && same_name q (client_name id.number (product_code w.given.rows))) ≡ false → Stands (client_after w c id q action (Some e))
after_stands w c id q (Some MakeLocal) e none = made_stands w c id q (recorded_path w c) e
after_stands w c id q (Some MakeAbsent) e none = unless_same (same_name q (client_name id.number (product_code w.given.rows))) e none
after_stands w c id q None e none = tt

id_stands : (w : World) (c : ComponentRow) (q : Name) (id : Option Guid) (e : Entry)
    → option_map_or (λ (id : Guid). is_made_absent (action_in w c.component) && same_name q (client_name id.number (product_code w.given.rows))) id false ≡ false
    → Stands (option_map_or (λ (id : Guid). client_after w c id q (action_in w c.component) (Some e)) id (Some e))
id_stands w c q (Some id) e none = after_stands w c id q (action_in w c.component) e none
id_stands w c q None e none = tt

removed_by_absence : (w : World) (q : Name) → starts_with nat_eq q (codes "c/") ≡ true → Goes process_components w q → is_client_of_absent w q ≡ true
removed_by_absence w q begins g =
    let gone : in_turn (client_by w q) (component_rows w) (Some g.entry) ≡ None = ap (in_turn (client_by w q) (component_rows w)) (sym g.stood) ∙ sym (clients_are_processed w g.machine g.after q begins) ∙ g.gone in
    else_true (is_client_of_absent w q) (λ none. subst Stands gone
    (stays (client_by w q) (is_client_of w q) (λ (c : Numbered ComponentRow) n e. id_stands w c.row q c.row.component_id e n) (component_rows w) (Some g.entry) tt none))

others_keep : AllByRecursion KeepsClients phases_but_clients
others_keep = (
  no_client_in (codes "v" ∷ codes "k" ∷ []) _ phases_change_only.removed_values (λ rest. refl),
  (
    no_client_in shortcuts_and_folders _ phases_change_only.removed_shortcuts (λ rest. refl),
    (
      no_client_in (codes "n/" ∷ []) _ phases_change_only.removed_variables (λ rest. refl),
      (
        no_client_in files_and_folders _ phases_change_only.removed_copies (λ rest. refl),
        (
          no_client_in files_and_folders _ phases_change_only.removed_files (λ rest. refl),
          (
            no_client_in (codes "d/" ∷ []) _ phases_change_only.removed_folders (λ rest. refl),
            (
              no_client_in (codes "d/" ∷ []) _ phases_change_only.created_folders (λ rest. refl),
              (
                no_client_in files_and_folders _ phases_change_only.installed_files (λ rest. refl),
                (
                  no_client_in files_and_folders _ phases_change_only.copied_files (λ rest. refl),
                  (
                    no_client_in shortcuts_and_folders _ phases_change_only.created_shortcuts (λ rest. refl),
                    (
                      no_client_in (codes "v/" ∷ codes "k/" ∷ []) _ phases_change_only.written_values (λ rest. refl),
                      (
                        no_client_in (codes "n/" ∷ []) _ phases_change_only.written_variables (λ rest. refl),
                        (
                          no_client_in (codes "p/" ∷ []) _ phases_change_only.product (λ rest. refl),
                          tt,
                        ),
                      ),
                    ),
                  ),
                ),
              ),
            ),
          ),
        ),
      ),
    ),
  ),
)

pub clients_go_by_absence : ClientsGoByAbsence
clients_go_by_absence = record { removed = removed_by_absence; beside = others_are_kept; others = others_keep }
