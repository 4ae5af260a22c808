use Rattle.std.proofs.Common.{◌≡◌, ◌≤◌, true, length, take}
use Rattle.mi_volume.specs.State.{Passes}
use Rattle.mi_volume.specs.declared.volume.TheConstants.{PIECE}
use Rattle.mi_undo.specs.Names.{is_inside}
use Rattle.mi_undo.specs.Notes.{notes_for}
use Rattle.mi_undo.specs.Area.{AreOutside, place_names}
use Rattle.mi_undo.proofs.EntrySteps.{Begun}
use Rattle.mi_undo.proofs.entry.write_entry.Given as goal

abbrev pub invariant-loop-name : goal.invariant-loop-name
invariant-loop-name g l = record {
  passes : Passes (g.V.Volume.state l.fn.vol) (g.V.Volume.state l.vol);
  names : place_names l.places.items ≡ take l.name-index l.names;
  short : length l.pending ≤ PIECE;
  begun : g.V.Volume.told → is_inside l.entry ≡ true → AreOutside l.names
      → Begun l.entry l.number (notes_for (g.V.Volume.state l.fn.vol).held (take l.name-index l.names)) l.pending (g.V.Volume.state l.fn.vol) (g.V.Volume.state l.vol) l.places.items l.at;
}
