use Rattle.std.proofs.Common.{◌≡◌, take}
use Rattle.std.specs.Prelude.{option_map}
use Rattle.std.specs.List.{filter_map}
use Rattle.mi_text.specs.Fold.{folded}
use Rattle.mi_dirs.specs.Places.{target_of}
use Rattle.mi_files.proofs.folders.touched_places.Given as goal

abbrev pub invariant-loop-row : goal.invariant-loop-row
invariant-loop-row g l = l.places.items ≡ filter_map (λ r. option_map folded (target_of (g.E.Sees.choices l.seen).dirs r.1.now.directory)) (take l.row-index l.rows)
