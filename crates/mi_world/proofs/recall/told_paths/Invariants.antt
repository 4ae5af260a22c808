use Rattle.std.proofs.Common.{◌≤◌, List, ℕ, length, map}
use Rattle.mi_text.specs.Maps.{Map}
use Rattle.mi_image.specs.Items.{machine_over}
use Rattle.mi_world.specs.Recall.{AreToldBy}
use Rattle.mi_world.proofs.recall.told_paths.Given as goal

abbrev pub invariant-loop-place : goal.invariant-loop-place
invariant-loop-place l = ((held files : Map (List ℕ)) → AreToldBy (machine_over held files l.image) l.code.number (map (λ r. r.now) l.rows) l.place l.table) × (l.place ≤ length l.rows)

abbrev pub decreases-loop-place : goal.decreases-loop-place
decreases-loop-place l = l.place
