use Rattle.std.proofs.Common.{ℕ, ◌<◌, length}
use Rattle.std.specs.Prelude.{Contains}
use Rattle.mi_dirs.specs.Order.{parent_in}
use Rattle.mi_dirs.specs.Paths.{ArePlaced}
use Rattle.mi_dirs.proofs.order.order_of.Given as goal

abbrev pub invariant-loop-row : goal.invariant-loop-row
invariant-loop-row l = ArePlaced (parent_in l.parents) (length l.parents) l.placing × ((row : ℕ) → row < l.row → Contains l.placing.order.items row)
