use Rattle.std.proofs.Common.{◌+◌, ◌-◌}
use Rattle.std.specs.FinMap.{get}
use Rattle.mi_volume.specs.Maps.{bytes_or_none}
use Rattle.mi_volume.specs.State.{Passes}
use Rattle.mi_undo.specs.Area.{Knows, AreBelow, place_names, notes_in}
use Rattle.mi_undo.specs.Reading.{Looks, Half}
use Rattle.mi_undo.proofs.read.read_notes.Given as goal

abbrev pub invariant-loop-at : goal.invariant-loop-at
invariant-loop-at g l = record {
  knows : Knows l.seen (place_names l.places.items);
  below : AreBelow (l.number + 1) l.places.items;
  half : g.V.Volume.told → Half (bytes_or_none (get (g.V.Volume.state l.fn.vol).held l.entry)) (notes_in (g.V.Volume.state l.fn.vol).held l.fn.places.items) (notes_in (g.V.Volume.state l.fn.vol).held l.places.items) l.at;
  looks : g.V.Volume.told → Looks (g.V.Volume.state l.fn.vol) (g.V.Volume.state l.vol);
  passes : Passes (g.V.Volume.state l.fn.vol) (g.V.Volume.state l.vol);
}

abbrev pub decreases-loop-at : goal.decreases-loop-at
decreases-loop-at g l = l.total - l.at
