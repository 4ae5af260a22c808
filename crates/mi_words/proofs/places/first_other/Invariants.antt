use Rattle.std.proofs.Common.{◌≡◌, ◌≤◌, ◌-◌, length}
use Rattle.mi_model.specs.Assignments.{texts_of}
use Rattle.mi_words.specs.Places.{others_behind}
use Rattle.mi_words.proofs.places.first_other.Given as goal

abbrev pub invariant-loop-place : goal.invariant-loop-place
invariant-loop-place l = record { within : l.place ≤ length l.words; same : others_behind l.from (texts_of l.words) ≡ others_behind l.place (texts_of l.words) }

abbrev pub decreases-loop-place : goal.decreases-loop-place
decreases-loop-place l = length l.words - l.place
