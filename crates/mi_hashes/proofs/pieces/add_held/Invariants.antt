use Rattle.std.proofs.Common.{◌≤◌, ◌-◌, ◌++◌, List, ℕ}
use Rattle.std.specs.FinMap.{get}
use Rattle.md5.specs.Md5.{Holds}
use Rattle.mi_volume.specs.Maps.{bytes_or_none}
use Rattle.mi_volume.specs.State.{Passes}
use Rattle.mi_image.specs.Looks.{OnlyLooks}
use Rattle.mi_hashes.proofs.PieceLemmas.{between}
use Rattle.mi_hashes.proofs.pieces.add_held.Given as goal

abbrev pub invariant-loop-at : goal.invariant-loop-at
invariant-loop-at g l =
    let state = g.V.Volume.state in
    record {
      low : l.fn.at ≤ l.at;
      high : l.at ≤ l.end;
      adds : g.V.Volume.told → (m : List ℕ) → Holds l.fn.hasher m → Holds l.hasher (m ++ between (bytes_or_none (get (state l.fn.vol).held l.name)) l.fn.at l.at);
      looks : g.V.Volume.told → OnlyLooks (state l.fn.vol) (state l.vol);
      passes : Passes (state l.fn.vol) (state l.vol);
    }

abbrev pub decreases-loop-at : goal.decreases-loop-at
decreases-loop-at g l = l.end - l.at
