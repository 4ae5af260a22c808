-- What is looked up by what is kept is what the world asks for.
use Rattle.std.proofs.Common.{◌≡◌, ℕ, List, [], Option, Some, None, refl, ap, ◌∙◌}
use Rattle.std.specs.Prelude.{option_map, option_and_then, unwrap_or}
use Rattle.std.specs.Result.{result_ok}
use Rattle.std.specs.FinMap.{get}
use Rattle.mi_text.specs.Maps.{Name, Map}
use Rattle.mi_text.specs.Path.{file_of}
use Rattle.mi_text.specs.FileNames.{long_name}
use Rattle.mi_text.specs.declared.guid.Guid.{Guid}
use Rattle.mi_text.specs.declared.env.Sign.{Sign}
use Rattle.mi_text.specs.declared.env.Sign.TheVariants.{Action as ActionSign, Installed as InstalledSign, FeatureAction as FeatureActionSign, FeatureInstalled as FeatureInstalledSign}
use Rattle.mi_source.specs.Paths.{Files}
use Rattle.mi_props.specs.Props.{Values, value_in}
use Rattle.mi_dirs.specs.Places.{Place, Folder, target_of}
use Rattle.mi_schema.specs.declared.typed_rows.ComponentRow.{ComponentRow}
use Rattle.mi_schema.specs.declared.typed_rows.FileRow.{FileRow}
use Rattle.mi_schema.specs.TableRows.{Rows, component_row_of, file_row_of}
use Rattle.mi_model.specs.World.{Given, Costed, Selection}
use Rattle.mi_model.specs.States.{is_present, is_present_by, installed_state, state_of}
use Rattle.mi_model.specs.Asked.{component_folder, path_of_file, file_path, lookups_over, lookups}
use Rattle.mi_steps.specs.declared.plan.Plan.{Plan}
use Rattle.mi_world.specs.declared.known.Known.{Known}
use Rattle.mi_world.specs.declared.placed.Placed.{Placed}
use Rattle.mi_world.specs.declared.seen.Seen.{Seen}
use Rattle.mi_world.specs.Ground.{ground}
use Rattle.mi_world.specs.Known.{IsKnown}
use Rattle.mi_world.specs.Places.{kept_folder, kept_path}
use Rattle.mi_world.specs.Seen.{seen_lookups, kept_state, dirs_in, costed_of, world_over, ArePlaced, AreBoth, Knows, IsOf}

then_map : {A B C : Type 0} (f : B → Option C) (h : A → B) (o : Option A) → option_and_then f (option_map h o) ≡ option_and_then (λ a. f (h a)) o
then_map f h None = refl
then_map f h (Some a) = refl

map_as : {A B : Type 0} (f h : A → B) → ((a : A) → f a ≡ h a) → (o : Option A) → option_map f o ≡ option_map h o
map_as f h same None = refl
map_as f h same (Some a) = ap Some (same a)

module _ (rows : Rows) (k : Known) (directories : (c : Name) → get k.directories c ≡ option_map (λ (r : ComponentRow). r.directory) (component_row_of rows c)) where
  folder_is : (dirs : List Place) (c : Name) → kept_folder k.directories dirs c ≡ component_folder rows dirs c
  folder_is dirs c = ap (option_and_then (target_of dirs)) (directories c) ∙ then_map (target_of dirs) (λ (r : ComponentRow). r.directory) (component_row_of rows c)

  path_is : (dirs : List Place) (r : FileRow) → kept_path k.directories dirs r ≡ unwrap_or (path_of_file rows dirs r) []
  path_is dirs r = ap (λ (o : Option Folder). unwrap_or (option_and_then (λ folder. result_ok (file_of folder (long_name r.file_name))) o) []) (folder_is dirs r.component)

  or_nothing : (dirs : List Place) (o : Option FileRow) → unwrap_or (option_map (kept_path k.directories dirs) o) [] ≡ unwrap_or (option_and_then (path_of_file rows dirs) o) []
  or_nothing dirs None = refl
  or_nothing dirs (Some r) = path_is dirs r

  files_are : (placed : Option Placed) → ArePlaced rows k placed → (key : Name)
      → unwrap_or (option_and_then (λ (p : Placed). get p.files key) placed) [] ≡ unwrap_or (option_and_then (λ d. file_path rows d key) (option_map (λ (p : Placed). p.dirs) placed)) []
  files_are None is key = refl
  files_are (Some p) is key = ap (λ (o : Option (List ℕ)). unwrap_or o []) (is.files key) ∙ or_nothing p.dirs (file_row_of rows key)

  folders_are : (placed : Option Placed) (key : Name)
      → unwrap_or (option_and_then (λ (p : Placed). kept_folder k.directories p.dirs key) placed) [] ≡ unwrap_or (option_and_then (λ d. component_folder rows d key) (option_map (λ (p : Placed). p.dirs) placed)) []
  folders_are None key = refl
  folders_are (Some p) key = ap (λ (o : Option Folder). unwrap_or o []) (folder_is p.dirs key)

present_by_id : (g : Given) (c : Name) (o : Option Guid) → is_present_by (ground g.rows g.former) c o ≡ is_present_by g c o
present_by_id g c (Some id) = refl
present_by_id g c None = refl

pub present_is : (g : Given) (r : ComponentRow) → is_present (ground g.rows g.former) r ≡ is_present g r
unfolding is_present
present_is g r = present_by_id g r.component r.component_id

states_are : (g : Given) (k : Known) → IsKnown g.rows g.former k → (choice : Option Selection) (sign : Sign) (key : Name) → kept_state k choice sign key ≡ state_of g choice sign key
states_are g k is None sign key = refl
states_are g k is (Some s) ActionSign key = refl
states_are g k is (Some s) InstalledSign key = ap installed_state (is.present key ∙ map_as (is_present (ground g.rows g.former)) (is_present g) (present_is g) (component_row_of g.rows key))
states_are g k is (Some s) FeatureActionSign key = refl
states_are g k is (Some s) FeatureInstalledSign key = ap installed_state (is.recorded key)

-- by these directories and this selection, if there are any
pub looks_over : (g : Given) (s : Seen) → Knows g s → seen_lookups s ≡ lookups_over g s.props (dirs_in s) s.selection
unfolding lookups_over
looks_over g s is = λ i. record {
  property = value_in s.props;
  variable = λ name. is.known.variables name i;
  file = λ key. files_are g.rows s.known is.known.directories s.placed is.placed key i;
  folder = λ key. folders_are g.rows s.known is.known.directories s.placed key i;
  state = λ sign key. states_are g s.known is.known s.selection sign key i;
}

of_both : (g : Given) (props : Values) (placed : Option Placed) (choice : Option Selection) → AreBoth placed choice
    → lookups_over g props (option_map (λ (p : Placed). p.dirs) placed) choice ≡ lookups_over g props (option_map (λ (c : Costed). c.dirs) (costed_of placed choice)) (option_map (λ (c : Costed). c.choice) (costed_of placed choice))
of_both g props None None both = refl
of_both g props (Some p) (Some choice) both = refl
of_both g props (Some p) None both = absurd both
of_both g props None (Some choice) both = absurd both

pub looks : (held : Map (List ℕ)) (files : Files) (g : Given) (s : Seen) (plan : Plan) → IsOf g s → seen_lookups s ≡ lookups (world_over held files g s plan)
unfolding lookups
looks held files g s plan is = looks_over g s is.knows ∙ of_both g s.props s.placed s.selection is.both
