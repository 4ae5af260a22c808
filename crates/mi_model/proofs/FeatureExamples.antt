-- What lists ask of features, by computation. (ADDLOCAL, REMOVE and ADDDEFAULT Properties; Feature Table, Attributes.)
use Rattle.std.proofs.Common.{◌≡◌, List, [], ◌∷◌, Option, Some, None, refl}
use Rattle.std.specs.Prelude.{ℕ, pos, negsuc, false, codes, if◌then◌else◌}
use Rattle.std.specs.Str.{bytes_eq}
use Rattle.mi_base.specs.declared.answers.Fault.TheVariants.{UnknownFeature}
use Rattle.mi_text.specs.Lookups.{Lookups}
use Rattle.mi_schema.specs.declared.typed_rows.FeatureRow.{FeatureRow}
use Rattle.mi_schema.specs.TableRows.{Rows}
use Rattle.mi_model.specs.Texts.{Text}
use Rattle.mi_model.specs.World.{Local, Absent}
use Rattle.mi_model.specs.FeatureLists.{lists_fault}
use Rattle.mi_model.specs.Features.{request_of}

abbrev feature : Text → Option Text → ℕ → ℕ → FeatureRow
feature name parent level attributes = record {
  feature = name;
  feature_parent = parent;
  title = None;
  description = None;
  display = None;
  level = pos level;
  directory = None;
  attributes = pos attributes;
}

-- disabled by its level
abbrev top : FeatureRow
top = feature (codes "Top") None 0 0

-- follows its parent by attribute 2
abbrev child : FeatureRow
child = feature (codes "Child") (Some (codes "Top")) 1 2

-- doesn't follow it
abbrev free_child : FeatureRow
free_child = feature (codes "Child") (Some (codes "Top")) 1 0

abbrev pub rows_of : List FeatureRow → Rows
rows_of features = record {
  short_names = false;
  component = [];
  condition = [];
  create_folder = [];
  custom_action = [];
  directory = [];
  duplicate_file = [];
  environment = [];
  feature = features;
  feature_components = [];
  file = [];
  install_execute_sequence = [];
  launch_condition = [];
  msi_file_hash = [];
  property = [];
  registry = [];
  remove_file = [];
  remove_registry = [];
  shortcut = [];
  summary_information = [];
  upgrade = [];
}

-- REMOVE is `Top`, and ADDDEFAULT, which is read later, `Child`
abbrev lists : Text → Text
lists name = if bytes_eq name (codes "REMOVE") then codes "Top" else if bytes_eq name (codes "ADDDEFAULT") then codes "Child" else []

abbrev pub asked : (Text → Text) → Lookups
asked property = record { property = property; variable = λ n. []; file = λ n. []; folder = λ n. []; state = λ sign key. negsuc 0 }

abbrev both : Option (List Text)
both = Some (codes "Child" ∷ codes "Top" ∷ [])

-- a disabled feature that is named by REMOVE is absent
top_is_absent : request_of (rows_of (child ∷ top ∷ [])) (asked lists) both 1 top ≡ Some Absent
unfolding request_of
top_is_absent = refl

-- a feature that follows it is absent too, whatever ADDDEFAULT says of it
child_follows : request_of (rows_of (child ∷ top ∷ [])) (asked lists) both 1 child ≡ Some Absent
unfolding request_of
child_follows = refl

-- one that doesn't follow is what the later list says
child_is_free : request_of (rows_of (free_child ∷ top ∷ [])) (asked lists) both 1 free_child ≡ Some Local
unfolding request_of
child_is_free = refl

-- a name that is no feature
no_feature : lists_fault (rows_of (top ∷ [])) (asked (λ name. if bytes_eq name (codes "ADDLOCAL") then codes "Nope" else [])) ≡ Some (UnknownFeature (codes "Nope"))
unfolding lists_fault
no_feature = refl
