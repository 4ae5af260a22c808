use Rattle.std.proofs.Common.{◌≡◌, ◌≤◌, ◌-◌, length, take}
use Rattle.std.specs.FinMap.{get}
use Rattle.mi_volume.specs.Maps.{bytes_or_none}
use Rattle.mi_volume.specs.State.{Passes}
use Rattle.mi_image.specs.Looks.{OnlyLooks}
use Rattle.mi_image.proofs.reading.read_on.Given as goal

abbrev pub invariant-loop-alloc : goal.invariant-loop-alloc
invariant-loop-alloc g l =
    let state = g.V.Volume.state in
    let whole = bytes_or_none (get (state l.fn.vol).held l.name) in
    record {
      front : g.V.Volume.told → l.fn.bytes ≡ take (length l.fn.bytes) whole → l.bytes ≡ take (length l.bytes) whole;
      short : length l.fn.bytes ≤ l.want → length l.bytes ≤ l.want;
      looks : g.V.Volume.told → OnlyLooks (state l.fn.vol) (state l.vol);
      passes : Passes (state l.fn.vol) (state l.vol);
    }

abbrev pub decreases-loop-alloc : goal.decreases-loop-alloc
decreases-loop-alloc g l = l.want - length l.bytes
