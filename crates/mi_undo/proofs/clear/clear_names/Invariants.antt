use Rattle.std.proofs.Common.{take}
use Rattle.mi_volume.specs.Maps.{Map}
use Rattle.mi_volume.specs.State.{Passes}
use Rattle.mi_undo.specs.Clear.{IsShut, AreInside, Clearing}
use Rattle.mi_undo.proofs.clear.clear_names.Given as goal

abbrev pub invariant-loop-name : goal.invariant-loop-name
invariant-loop-name g l = record {
  passes : Passes (g.V.Volume.state l.initial.vol) (g.V.Volume.state l.vol);
  clearing : g.V.Volume.told → (A : Map) → AreInside l.names → IsShut (g.V.Volume.state l.initial.vol) A → Clearing (g.V.Volume.state l.initial.vol) (g.V.Volume.state l.vol) A (take l.name-index l.names);
}
