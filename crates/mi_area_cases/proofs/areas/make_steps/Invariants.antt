-- The area goes on, and each step so far has made at most one entry.
use Rattle.std.proofs.Common.{◌≤◌}
use Rattle.mi_undo.specs.Area.{entry_count}
use Rattle.mi_area_cases.specs.Areas.{CanGoOn}
use Rattle.mi_area_cases.proofs.areas.make_steps.Given as goal

abbrev pub invariant-loop-place : goal.invariant-loop-place
invariant-loop-place g l = record {
  on : CanGoOn g.V.Volume.told g.V.Volume.state l.area l.noted.items;
  few : entry_count l.area ≤ l.place;
}
