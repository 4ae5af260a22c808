-- Whether components and features were there, and the states that conditions ask for. (Component Table; Conditional Statement Syntax, Access Prefixes.)
use Rattle.std.specs.Prelude.{ℤ, pos, negsuc, Bool, true, false, List, [], map, find, filter, Option, Some, None, is_some, option_map, unwrap_or}
use Rattle.std.specs.List.{list_any}
use Rattle.mi_text.specs.Maps.{Name, same_name, is_among}
use Rattle.mi_text.specs.declared.guid.Guid.{Guid}
use Rattle.mi_text.specs.declared.env.Sign.{Sign}
use Rattle.mi_text.specs.declared.env.Sign.TheVariants.{Action as ActionSign, Installed as InstalledSign, FeatureAction as FeatureActionSign, FeatureInstalled as FeatureInstalledSign}
use Rattle.mi_base.specs.declared.entry.Product.{Product}
use Rattle.mi_base.specs.Machine.{client_at, product_at}
use Rattle.mi_schema.specs.declared.typed_rows.ComponentRow.{ComponentRow}
use Rattle.mi_schema.specs.declared.typed_rows.FeatureRow.{FeatureRow}
use Rattle.mi_schema.specs.declared.typed_rows.FeatureComponentsRow.{FeatureComponentsRow}
use Rattle.mi_model.specs.Texts.{Text}
use Rattle.mi_schema.specs.TableRows.{Rows, component_row_of, feature_row_of, product_code}
use Rattle.mi_model.specs.World.{Request, Action, Selection, Local, Absent, Reinstall, MakeLocal, MakeAbsent, Given}

-- the features that the product's record has
abbrev pub recorded_features : Given → List Text
recorded_features g = unwrap_or (option_map (λ (p : Product). p.features) (product_at g.former (product_code g.rows))) []

-- the features that hold a component
abbrev pub features_of : Rows → Name → List Name
features_of rows c = map (λ (r : FeatureComponentsRow). r.feature) (filter (λ (r : FeatureComponentsRow). same_name c r.component) rows.feature_components)

abbrev pub is_present_by : Given → Name → Option Guid → Bool
is_present_by g c (Some id) = is_some (client_at g.former id.number (product_code g.rows))
is_present_by g c None = list_any (λ f. is_among f (recorded_features g)) (features_of g.rows c)

-- a component is present where this product is a client of its id; one without an id where a recorded feature holds it
unfoldable pub is_present : Given → ComponentRow → Bool
is_present g c = is_present_by g c.component c.component_id

abbrev pub named : {X : Type 0} → Name → List (Name × X) → Option X
named name pairs = option_map (λ p. p.1) (find (λ p. same_name name p.0) pairs)

-- 3 for local, 2 for absent, and -1 for neither
abbrev pub action_state : Option (Option Action) → ℤ
action_state (Some (Some MakeLocal)) = pos 3
action_state (Some (Some MakeAbsent)) = pos 2
action_state other = negsuc 0

abbrev pub request_state : Option (Option Request) → ℤ
request_state (Some (Some Local)) = pos 3
request_state (Some (Some Reinstall)) = pos 3
request_state (Some (Some Absent)) = pos 2
request_state other = negsuc 0

-- 3 where it is there, 2 where it isn't, and -1 where it is unknown
abbrev pub installed_state : Option Bool → ℤ
installed_state (Some true) = pos 3
installed_state (Some false) = pos 2
installed_state None = negsuc 0

abbrev pub state_of : Given → Option Selection → Sign → Name → ℤ
state_of g None sign key = negsuc 0
state_of g (Some s) ActionSign key = action_state (named key s.actions)
state_of g (Some s) InstalledSign key = installed_state (option_map (is_present g) (component_row_of g.rows key))
state_of g (Some s) FeatureActionSign key = request_state (named key s.requests)
state_of g (Some s) FeatureInstalledSign key = installed_state (option_map (λ (r : FeatureRow). is_among r.feature (recorded_features g)) (feature_row_of g.rows key))
