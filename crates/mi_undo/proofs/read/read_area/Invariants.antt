use Rattle.std.proofs.Common.{◌≡◌, ◌-◌, []}
use Rattle.mi_volume.specs.State.{Passes}
use Rattle.mi_undo.specs.Names.{most_entries}
use Rattle.mi_undo.specs.Stands.{read_from}
use Rattle.mi_undo.specs.Area.{Knows, AreBelow, place_names, notes_in}
use Rattle.mi_undo.specs.Reading.{Looks, first_shut}
use Rattle.mi_undo.proofs.read.read_area.Given as goal

abbrev pub invariant-loop-number : goal.invariant-loop-number
invariant-loop-number g l = record {
  knows : Knows l.seen (place_names l.places.items);
  below : AreBelow l.number l.places.items;
  reads : g.V.Volume.told → read_from (g.V.Volume.state l.fn.vol).held 0 most_entries [] ≡ read_from (g.V.Volume.state l.fn.vol).held l.number (most_entries - l.number) (notes_in (g.V.Volume.state l.fn.vol).held l.places.items);
  first : g.V.Volume.told → first_shut (g.V.Volume.state l.fn.vol).held 0 most_entries ≡ first_shut (g.V.Volume.state l.fn.vol).held l.number (most_entries - l.number);
  looks : g.V.Volume.told → Looks (g.V.Volume.state l.fn.vol) (g.V.Volume.state l.vol);
  passes : Passes (g.V.Volume.state l.fn.vol) (g.V.Volume.state l.vol);
}
