-- The rows that belong to components, and what the rows of kept ones guard. (Component Table; that kept rows guard what they name is
-- this project's own.)
use Rattle.std.specs.Prelude.{◌&&◌, Bool, false, List, filter, Option, option_map, option_and_then}
use Rattle.std.specs.Option.{option_flatten, option_map_or}
use Rattle.std.specs.List.{list_any}
use Rattle.mi_text.specs.Maps.{Name, same_name}
use Rattle.mi_fver.specs.declared.mode.Mode.{Mode}
use Rattle.mi_schema.specs.TableRows.{Numbered, in_key_order, numbered_from}
use Rattle.mi_model.specs.World.{World, Costed, Selection, Action}
use Rattle.mi_model.specs.States.{named}
use Rattle.mi_model.specs.Asked.{keeps}
use Rattle.mi_model.specs.Components.{is_made_local}

abbrev pub choice_of : World → Option Selection
choice_of w = option_map (λ (c : Costed). c.choice) w.costed

-- the action of a component
abbrev pub action_in : World → Name → Option Action
action_in w c = option_flatten (option_and_then (λ (s : Selection). named c s.actions) (choice_of w))

unfoldable pub is_local : World → Name → Bool
is_local w c = is_made_local (action_in w c)

-- a letter of REINSTALLMODE as CostFinalize read it
abbrev pub has_mode : (Mode → Bool) → World → Bool
has_mode letter w = option_map_or (λ (s : Selection). letter s.mode) (choice_of w) false

-- the rows whose components pass, in byte order of their keys
abbrev pub rows_that : {R : Type 0} → (R → Name) → (R → Name) → (Name → Bool) → List R → List (Numbered R)
rows_that key component test rows = filter (λ r. test (component r.row)) (in_key_order key rows)

-- A leaving row takes nothing away that a row of a kept component names: one of these rows is such a row of this name.
abbrev pub is_guarded_by : {R : Type 0} → World → (R → Name) → (Numbered R → Option Name) → List R → Name → Bool
is_guarded_by w component named_by rows name = list_any (λ r. keeps w (component r.row) && option_map_or (same_name name) (named_by r) false) (numbered_from 1 rows)
