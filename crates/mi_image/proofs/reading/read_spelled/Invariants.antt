use Rattle.std.proofs.Common.{◌≡◌, ◌≤◌, ◌-◌, take}
use Rattle.std.specs.FinMap.{get}
use Rattle.mi_volume.specs.Maps.{bytes_or_none}
use Rattle.mi_volume.specs.State.{Passes}
use Rattle.mi_image.specs.Looks.{OnlyLooks}
use Rattle.mi_image.proofs.reading.read_spelled.Given as goal

abbrev pub invariant-loop-want : goal.invariant-loop-want
invariant-loop-want g l =
    let state = g.V.Volume.state in
    record {
      within : l.want ≤ l.size;
      front : g.V.Volume.told → l.bytes ≡ take l.want (bytes_or_none (get (state l.fn.vol).held l.name));
      looks : g.V.Volume.told → OnlyLooks (state l.fn.vol) (state l.vol);
      passes : Passes (state l.fn.vol) (state l.vol);
    }

abbrev pub decreases-loop-want : goal.decreases-loop-want
decreases-loop-want g l = l.size - l.want
