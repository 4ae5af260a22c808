use Rattle.std.proofs.Common.{◌≡◌, length, vec_len}
use Rattle.mi_dirs.specs.Paths.{AllBelow}
use Rattle.mi_dirs.specs.Sources.{source_names, named_step, down_to}
use Rattle.mi_dirs.proofs.sources.source_down.Given as goal

abbrev pub invariant-loop-row : goal.invariant-loop-row
invariant-loop-row l =
    AllBelow (length l.rows) l.path.items
    × (down_to (named_step (source_names l.rows) l.folder) l.path.items l.source ≡ down_to (named_step (source_names l.rows) l.folder) l.fn.path.items l.folder)

abbrev pub decreases-loop-row : goal.decreases-loop-row
decreases-loop-row l = vec_len l.path
