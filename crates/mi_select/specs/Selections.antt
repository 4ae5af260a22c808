-- The selection as the program keeps it. (CostFinalize Action; Feature Table; Component Table.)
use Rattle.std.specs.Prelude.{Bool, List, map, filter, option_map, String, string_bytes}
use Rattle.std.specs.declared.alloc.Global.{Global}
use Rattle.mi_text.specs.Maps.{Name}
use Rattle.mi_fver.specs.declared.mode.Mode.{Mode}
use Rattle.mi_model.specs.World.{Selection}
use Rattle.mi_wishes.specs.declared.choice.FeatureChoice.{FeatureChoice}
use Rattle.mi_select.specs.declared.selection.Chosen.{Chosen}
use Rattle.mi_wishes.specs.Choices.{request_to}
use Rattle.mi_components.specs.Actions.{as_action}

-- what is kept of a name
abbrev pub as_named : {V : Type 0} → String Global × V → Name × V
as_named e = (string_bytes e.0, e.1)

abbrev pub names_that : {V : Type 0} → (V → Bool) → List (Name × V) → List Name
names_that test es = map (λ e. e.0) (filter (λ e. test e.1) es)

-- what the features and components come to, of what is kept of each by its name
unfoldable pub selection_of : List (Name × FeatureChoice) → List (Name × Chosen) → Mode → Selection
selection_of features components mode = record {
  requests = map (λ e. (e.0, option_map request_to e.1.request)) features;
  local_after = names_that (λ f. f.local_after) features;
  actions = map (λ e. (e.0, as_action e.1.choice.action)) components;
  coming = names_that (λ c. c.coming) components;
  leaving = names_that (λ c. c.leaving) components;
  kept = names_that (λ c. c.kept) components;
  key_paths = map (λ e. (e.0, e.1.key_path)) components;
  mode = mode;
}
