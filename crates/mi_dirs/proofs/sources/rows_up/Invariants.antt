use Rattle.std.proofs.Common.{◌≡◌, ◌<◌, ◌-◌, length, true, List, ℕ, [], vec_len}
use Rattle.mi_dirs.specs.Chains.{ends_in}
use Rattle.mi_dirs.specs.Paths.{AllBelow}
use Rattle.mi_dirs.specs.Places.{bound, parent_at}
use Rattle.mi_dirs.specs.Sources.{source_names, named_step, kept_source, down_to}
use Rattle.mi_dirs.specs.Views.{places_in}
use Rattle.mi_dirs.proofs.sources.rows_up.Given as goal

-- the rows so far lead from the row to where it stands, and the rest of its chain ends within what is left
abbrev pub invariant-loop-at : goal.invariant-loop-at
invariant-loop-at l =
    (l.at < length l.rows)
    × AllBelow (length l.rows) l.path.items
    × ((folder : List ℕ) → kept_source l.rows folder l.row ≡ down_to (named_step (source_names l.rows) folder) l.path.items (kept_source l.rows folder l.at))
    × (ends_in (parent_at (places_in l.rows [])) (bound l.rows - vec_len l.path) l.at ≡ true)

abbrev pub decreases-loop-at : goal.decreases-loop-at
decreases-loop-at l = bound l.rows - vec_len l.path
