use Rattle.std.proofs.Common.{take}
use Rattle.mi_volume.specs.Maps.{Map}
use Rattle.mi_volume.specs.State.{Passes}
use Rattle.mi_undo.specs.Keeps.{Keeps}
use Rattle.mi_undo.specs.Area.{notes_in}
use Rattle.mi_undo.specs.Back.{Removing}
use Rattle.mi_undo.proofs.back.remove_all.Given as goal

abbrev pub invariant-loop-place : goal.invariant-loop-place
invariant-loop-place g l = record {
  passes : Passes (g.V.Volume.state l.initial.vol) (g.V.Volume.state l.vol);
  removing : g.V.Volume.told → (F : Map) → Keeps (g.V.Volume.state l.initial.vol) F (notes_in (g.V.Volume.state l.initial.vol).held l.places)
      → Removing (g.V.Volume.state l.initial.vol) (g.V.Volume.state l.vol) F (notes_in (g.V.Volume.state l.initial.vol).held l.places) (notes_in (g.V.Volume.state l.initial.vol).held (take l.place-index l.places));
}
