use Rattle.std.proofs.Common.{◌≡◌, ◌≢◌, ℕ, ◌<◌, ◌≤◌, ◌-◌, List, Some, take, drop}
use Rattle.std.specs.FinMap.{get}
use Rattle.mi_volume.specs.Maps.{bytes_or_none}
use Rattle.mi_volume.specs.State.{Passes}
use Rattle.mi_undo.specs.Steps.{IsWithin}
use Rattle.mi_undo.proofs.SpanLemmas.{Added}
use Rattle.mi_undo.proofs.steps.append_span.Given as goal

abbrev pub invariant-loop-at : goal.invariant-loop-at
invariant-loop-at g l = record {
  low : l.fn.at ≤ l.at;
  high : l.fn.at < l.at → l.at ≤ l.end;
  passes : Passes (g.V.Volume.state l.fn.vol) (g.V.Volume.state l.vol);
  added : g.V.Volume.told → l.from ≢ l.to → (before : List ℕ) → get (g.V.Volume.state l.fn.vol).held l.to ≡ Some before
      → Added l.to before (take (l.at - l.fn.at) (drop l.fn.at (bytes_or_none (get (g.V.Volume.state l.fn.vol).held l.from)))) (g.V.Volume.state l.fn.vol) (g.V.Volume.state l.vol);
  fits : g.V.Volume.told → IsWithin (g.V.Volume.state l.fn.vol) → IsWithin (g.V.Volume.state l.vol);
}

abbrev pub decreases-loop-at : goal.decreases-loop-at
decreases-loop-at g l = l.end - l.at
