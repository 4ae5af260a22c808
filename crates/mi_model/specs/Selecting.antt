-- The selection that CostFinalize makes: what becomes of the features and components. (CostFinalize Action; INSTALLLEVEL and
-- REINSTALLMODE Properties.)
use Rattle.std.specs.Prelude.{ℕ, suc, ◌==◌, Bool, false, if◌then◌else◌, List, map, filter, length, codes, Option, Some, None, option_map, ok_or, Result, Ok, Err}
use Rattle.mi_text.specs.Maps.{Name}
use Rattle.mi_text.specs.Lookups.{Lookups}
use Rattle.mi_idt.specs.Fields.{number_within}
use Rattle.mi_base.specs.declared.entry.Product.{Product}
use Rattle.mi_base.specs.Machine.{product_at}
use Rattle.mi_props.specs.Props.{Values}
use Rattle.mi_dirs.specs.Places.{Place}
use Rattle.mi_fver.specs.declared.mode.Mode.{Mode}
use Rattle.mi_fver.specs.Letters.{mode_of}
use Rattle.mi_schema.specs.declared.typed_rows.ComponentRow.{ComponentRow}
use Rattle.mi_schema.specs.declared.typed_rows.FeatureRow.{FeatureRow}
use Rattle.mi_model.specs.Texts.{Text}
use Rattle.mi_base.specs.declared.answers.Fault.{Fault}
use Rattle.mi_base.specs.declared.answers.Fault.TheVariants.{BadProperty}
use Rattle.mi_schema.specs.TableRows.{Rows, Numbered, in_key_order, product_code}
use Rattle.mi_model.specs.World.{Given, Request, Action, Selection}
use Rattle.mi_model.specs.States.{is_present}
use Rattle.mi_model.specs.Asked.{lookups_over}
use Rattle.mi_model.specs.Refusals.{◌>>=◌, each, unless}
use Rattle.mi_model.specs.FeatureLists.{lists_fault}
use Rattle.mi_model.specs.Features.{request_of, is_local_after}
use Rattle.mi_model.specs.KeyPaths.{KeyPath, key_path_text, is_there, key_path_of}
use Rattle.mi_model.specs.Components.{action_of, has_other_client, is_coming, is_leaving, is_kept}
use Rattle.mi_model.specs.SharedCounts.{has_other_count}

-- ---- the settings

abbrev pub above_zero : Option ℕ → Option ℕ
above_zero (Some (suc n)) = Some (suc n)
above_zero other = None

-- a number from 1 to 32767, and 1 where it isn't set
abbrev pub install_level_of : Text → Option ℕ
install_level_of text = if length text == 0 then Some 1 else above_zero (number_within 32767 text)

-- letters, and `omus` where it isn't set
abbrev pub reinstall_mode_of : Text → Option Mode
reinstall_mode_of text = if length text == 0 then mode_of (codes "omus") else mode_of text

abbrev pub setting : {A : Type 0} → (Text → Option A) → Lookups → Text → Result A Fault
setting read L name = ok_or (read (L.property name)) (BadProperty name)

-- ---- rows in key order

abbrev pub component_order : Rows → List ComponentRow
component_order rows = map (λ (c : Numbered ComponentRow). c.row) (in_key_order (λ (c : ComponentRow). c.component) rows.component)

abbrev pub feature_order : Rows → List FeatureRow
feature_order rows = map (λ (f : Numbered FeatureRow). f.row) (in_key_order (λ (f : FeatureRow). f.feature) rows.feature)

-- the features of this product's record, if there is one
abbrev pub record_of_product : Given → Option (List Text)
record_of_product g = option_map (λ (p : Product). p.features) (product_at g.former (product_code g.rows))

-- over the properties as they stand, these directories and states of -1
module _ (g : Given) (L : Lookups) (dirs : List Place) where
  abbrev pub feature_request : ℕ → FeatureRow → Option Request
  feature_request level f = request_of g.rows L (record_of_product g) level f

  abbrev pub is_feature_after : ℕ → FeatureRow → Bool
  is_feature_after level f = is_local_after g.rows L (record_of_product g) level f

  abbrev pub component_action : ℕ → ComponentRow → Option Action
  component_action level c = action_of g.rows L (feature_request level) (is_feature_after level) (is_present g) c

  abbrev pub key_path : ComponentRow → Result KeyPath Fault
  key_path c = key_path_of g.rows dirs L c

  abbrev pub holds_there : Result KeyPath Fault → Bool
  holds_there (Ok p) = is_there g.former p
  holds_there (Err fault) = false

  abbrev pub comes_in : ℕ → ComponentRow → Bool
  comes_in level c = is_coming c (component_action level c) (holds_there (key_path c))

  abbrev pub leaves_in : ℕ → ComponentRow → Bool
  leaves_in level c = is_leaving c (component_action level c) (has_other_client g.former (product_code g.rows) c.component_id) (has_other_count g.rows g.former c (key_path c))

  abbrev pub keeps_in : ℕ → ComponentRow → Bool
  keeps_in level c = is_kept (component_action level c) (is_present g c) (leaves_in level c)

  abbrev pub components_that : (ComponentRow → Bool) → List Name
  components_that test = map (λ (c : ComponentRow). c.component) (filter test (component_order g.rows))

  abbrev pub named_path : ComponentRow → Result (Name × Text) Fault
  named_path c = key_path c >>= λ p. Ok (c.component, key_path_text p)

  -- the first refusal: of the settings, of the lists, and of the key paths
  abbrev pub selected : Result Selection Fault
  selected = do
    level ← setting install_level_of L (codes "INSTALLLEVEL")
    mode ← setting reinstall_mode_of L (codes "REINSTALLMODE")
    key_paths ← unless (lists_fault g.rows L) (each named_path (component_order g.rows))
    Ok (record {
      requests = map (λ (f : FeatureRow). (f.feature, feature_request level f)) (feature_order g.rows);
      local_after = map (λ (f : FeatureRow). f.feature) (filter (is_feature_after level) (feature_order g.rows));
      actions = map (λ (c : ComponentRow). (c.component, component_action level c)) (component_order g.rows);
      coming = components_that (comes_in level);
      leaving = components_that (leaves_in level);
      kept = components_that (keeps_in level);
      key_paths = key_paths;
      mode = mode;
    })

-- the selection over the properties before CostFinalize sets those of the directories
unfoldable pub select : Given → Values → List Place → Result Selection Fault
select g props dirs = selected g (lookups_over g props (Some dirs) None) dirs
