use Rattle.std.proofs.Common.{◌≡◌, ◌++◌, map}
use Rattle.std.specs.Prelude.{option_map}
use Rattle.std.specs.List.{filter_map}
use Rattle.mi_text.specs.Fold.{folded}
use Rattle.mi_model.specs.World.{World}
use Rattle.mi_model.specs.Prune.{kept_folders}
use Rattle.mi_records.specs.Choices.{IsAsked}
use Rattle.mi_files.specs.Folders.{kept_folder}
use Rattle.mi_files.proofs.prune.add_kept_places.Given as goal

abbrev pub invariant-loop-row : goal.invariant-loop-row
invariant-loop-row g l = (w : World) → IsAsked (g.E.Env.lookups l.seen) (g.E.Sees.choices l.seen) (g.E.Sees.rows l.seen) w → l.places.items ++ filter_map (λ r. option_map folded (kept_folder w r)) l.row-iterator ≡ l.fn.places.items ++ map folded (kept_folders w)
