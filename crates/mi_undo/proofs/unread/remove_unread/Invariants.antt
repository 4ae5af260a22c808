use Rattle.std.proofs.Common.{◌≡◌, true, List}
use Rattle.mi_volume.specs.Maps.{Map}
use Rattle.mi_volume.specs.State.{Passes}
use Rattle.mi_undo.specs.Notes.{Note}
use Rattle.mi_undo.specs.Names.{is_entry_like}
use Rattle.mi_undo.specs.Reading.{Spare, Spares}
use Rattle.mi_undo.proofs.EntryNumbers.{AreGone}
use Rattle.mi_undo.proofs.unread.remove_unread.Given as goal

abbrev pub invariant-loop : goal.invariant-loop
invariant-loop g l = record {
  spares : g.V.Volume.told → (F : Map) (ns : List Note) → Spare (g.V.Volume.state l.fn.vol) F ns l.entries → Spares (g.V.Volume.state l.fn.vol) (g.V.Volume.state l.vol) F ns l.entries;
  like : is_entry_like l.after ≡ true;
  gone : g.V.Volume.told → AreGone (g.V.Volume.state l.vol).held l.entries l.after;
  passes : Passes (g.V.Volume.state l.fn.vol) (g.V.Volume.state l.vol);
}
