use Rattle.std.proofs.Common.{◌≡◌, ◌≤◌, ◌-◌, length, take}
use Rattle.std.specs.FinMap.{get}
use Rattle.mi_volume.specs.Maps.{bytes_or_none}
use Rattle.mi_volume.specs.State.{Passes}
use Rattle.mi_undo.specs.Reading.{Looks}
use Rattle.mi_undo.proofs.gather.read_piece.Given as goal

abbrev pub invariant-loop-alloc : goal.invariant-loop-alloc
invariant-loop-alloc g l = record {
  front : g.V.Volume.told → l.bytes ≡ take (length l.bytes) (bytes_or_none (get (g.V.Volume.state l.fn.vol).held l.name));
  short : length l.bytes ≤ l.len;
  looks : g.V.Volume.told → Looks (g.V.Volume.state l.fn.vol) (g.V.Volume.state l.vol);
  passes : Passes (g.V.Volume.state l.fn.vol) (g.V.Volume.state l.vol);
}

abbrev pub decreases-loop-alloc : goal.decreases-loop-alloc
decreases-loop-alloc g l = l.len - length l.bytes
