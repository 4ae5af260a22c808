-- What phases ask of what is seen, as it is kept. (Component Table; Feature Table; REINSTALLMODE Property.)
use Rattle.std.specs.Prelude.{false, [], Option, option_and_then, unwrap_or}
use Rattle.std.specs.Option.{option_flatten, option_map_or}
use Rattle.std.specs.FinMap.{get}
use Rattle.mi_text.specs.Maps.{Name, is_among}
use Rattle.mi_fver.specs.declared.mode.Mode.{Mode}
use Rattle.mi_model.specs.World.{Selection, Action}
use Rattle.mi_model.specs.States.{named}
use Rattle.mi_model.specs.Components.{is_made_local, is_made_absent}
use Rattle.mi_records.specs.Choices.{Choices}
use Rattle.mi_world.specs.declared.placed.Placed.{Placed}
use Rattle.mi_world.specs.declared.seen.Seen.{Seen}

-- no letters
abbrev pub no_mode : Mode
no_mode = record { p = false; o = false; e = false; d = false; a = false; u = false; m = false; s = false; v = false }

-- what is done to a component; nothing while there is no selection
abbrev pub kept_action : Option Selection → Name → Option Action
kept_action choice c = option_flatten (option_and_then (λ (s : Selection). named c s.actions) choice)

-- all answers, by what is kept; nothing comes, leaves or stays while there is no selection, and no directory has a target before it is placed
abbrev pub seen_choices : Seen → Choices
seen_choices s = record {
  coming = λ c. is_among c (option_map_or (λ (x : Selection). x.coming) s.selection []);
  leaving = λ c. is_among c (option_map_or (λ (x : Selection). x.leaving) s.selection []);
  kept = λ c. is_among c (option_map_or (λ (x : Selection). x.kept) s.selection []);
  local = λ c. is_made_local (kept_action s.selection c);
  absent = λ c. is_made_absent (kept_action s.selection c);
  present = λ c. unwrap_or (get s.known.present c) false;
  found = λ c. unwrap_or (option_and_then (λ (x : Selection). named c x.key_paths) s.selection) [];
  mode = option_map_or (λ (x : Selection). x.mode) s.selection no_mode;
  local_after = option_map_or (λ (x : Selection). x.local_after) s.selection [];
  dirs = option_map_or (λ (p : Placed). p.dirs) s.placed [];
  moment = s.moment;
  system = s.known.system.items;
}
