use Rattle.std.proofs.Common.{◌≡◌, true}
use Rattle.mi_volume.specs.Maps.{Map}
use Rattle.mi_volume.specs.State.{Passes}
use Rattle.mi_undo.specs.Names.{marker, is_inside}
use Rattle.mi_undo.specs.Clear.{IsShut}
use Rattle.mi_undo.specs.Sweep.{IsAway, Sweeping}
use Rattle.mi_undo.proofs.sweep.sweep_above.Given as goal

abbrev pub invariant-loop : goal.invariant-loop
invariant-loop g l = record {
  inside : is_inside l.after ≡ true;
  sweeping : g.V.Volume.told → (A : Map) → l.marker_name ≡ marker → IsShut (g.V.Volume.state l.fn.vol) A → IsAway (g.V.Volume.state l.fn.vol).held l.fn.top → Sweeping (g.V.Volume.state l.fn.vol) (g.V.Volume.state l.vol) A l.after;
  passes : Passes (g.V.Volume.state l.fn.vol) (g.V.Volume.state l.vol);
}
