use Rattle.std.proofs.Common.{◌≡◌, ℕ, suc, ◌-◌, ◌≤◌, ◌<◌, length, false, Some, vec_len}
use Rattle.std.specs.Prelude.{IfSome, Contains, slice_get}
use Rattle.mi_dirs.specs.Order.{parent_in}
use Rattle.mi_dirs.specs.Paths.{LeadsTo, AllBelow}
use Rattle.mi_dirs.proofs.order.path_up.Given as goal

abbrev pub invariant-loop-at : goal.invariant-loop-at
invariant-loop-at l =
    LeadsTo (parent_in l.parents) l.path.items (Some l.row) l.at
    × AllBelow (length l.parents) l.path.items
    × IfSome l.at (λ r. r < length l.parents)
    × (vec_len l.path ≤ suc (length l.parents))
    × ((r : ℕ) → Contains l.path.items r → slice_get l.placed r ≡ Some false)

abbrev pub decreases-loop-at : goal.decreases-loop-at
decreases-loop-at l = suc (suc (length l.parents)) - vec_len l.path
