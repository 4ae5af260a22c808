-- What becomes of components. (Component Table; FeatureComponents Table.)
use Rattle.std.specs.Prelude.{ℕ, ◌&&◌, ◌||◌, not, Bool, true, false, if◌then◌else◌, List, Option, Some, None, is_some, option_map}
use Rattle.std.specs.BTreeMap.{BTreeMap}
use Rattle.std.specs.Borrow.{Bor}
use Rattle.mi_text.specs.Lookups.{Lookups}
use Rattle.mi_text.specs.declared.guid.Guid.{Guid}
use Rattle.mi_base.specs.Machine.{Machine, client_at}
use Rattle.mi_dirs.specs.Places.{Place}
use Rattle.mi_schema.specs.declared.typed_rows.ComponentRow.{ComponentRow}
use Rattle.mi_schema.specs.TableRows.{product_code}
use Rattle.mi_model.specs.World as world
use Rattle.mi_model.specs.World.{Given}
use Rattle.mi_model.specs.Conditions.{holds}
use Rattle.mi_model.specs.Components.{has_other_client, has_id}
use Rattle.mi_model.specs.States.{is_present}
use Rattle.mi_model.specs.Selecting.{component_action}
use Rattle.mi_components.specs.declared.component.Action.{Action}
use Rattle.mi_components.specs.declared.component.Action.TheVariants.{MakeLocal, MakeAbsent}
use Rattle.mi_components.specs.declared.component.ComponentChoice.{ComponentChoice}
use Rattle.mi_components.specs.declared.holders.Holders.{Holders}
use Rattle.mi_components.specs.Holders.{held_at}

-- ---- actions as the program tells them

abbrev pub action_from : world.Action → Action
action_from world.MakeLocal = MakeLocal
action_from world.MakeAbsent = MakeAbsent

abbrev pub action_to : Action → world.Action
action_to MakeLocal = world.MakeLocal
action_to MakeAbsent = world.MakeAbsent

abbrev pub told : Option world.Action → Option Action
told action = option_map action_from action

abbrev pub as_action : Option Action → Option world.Action
as_action action = option_map action_to action

-- what is done to a component and was there of it, of what is given, these look-ups and directories, and this value of INSTALLLEVEL
abbrev pub component_choice : Given → Lookups → List Place → ℕ → ComponentRow → ComponentChoice
component_choice g L dirs level c = record {
  action = told (component_action g L dirs level c);
  present = is_present g c;
  other_client = has_other_client g.former (product_code g.rows) c.component_id;
}

-- ---- by what is kept

abbrev pub is_local : Option Action → Bool
is_local (Some MakeLocal) = true
is_local (Some MakeAbsent) = false
is_local None = false

abbrev pub is_absent : Option Action → Bool
is_absent (Some MakeLocal) = false
is_absent (Some MakeAbsent) = true
is_absent None = false

abbrev pub action_kept : Bool → Bool → Bool → Holders → Option Action
action_kept has_id holds present h =
    if (holds || (has_id && present)) && (h.local || (has_id && h.reinstalled)) then Some MakeLocal
    else if has_id && present && not h.wanted then Some MakeAbsent
    else None

-- a component with an id is there where the product is a client of it, and another where a recorded feature holds it
abbrev pub present_kept : Machine → ℕ → Bool → Option Guid → Bool
present_kept m product recorded (Some id) = is_some (client_at m id.number product)
present_kept m product recorded None = recorded

abbrev pub choice_kept : Machine → ℕ → Lookups → BTreeMap (Bor (List ℕ)) Holders → ComponentRow → ComponentChoice
choice_kept m product L held c = record {
  action = action_kept (has_id c) (holds L c.condition) (present_kept m product (held_at held c.component).recorded c.component_id) (held_at held c.component);
  present = present_kept m product (held_at held c.component).recorded c.component_id;
  other_client = has_other_client m product c.component_id;
}
