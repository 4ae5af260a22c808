use Rattle.std.proofs.Common.{◌≡◌, ◌≤◌, take}
use Rattle.mi_runner.proofs.CarryLemmas.{Carried}
use Rattle.mi_runner.proofs.carry.carry_records.Given as goal

abbrev pub invariant-loop-rec : goal.invariant-loop-rec
invariant-loop-rec g l = record {
  carried : Carried g.V.Volume.told g.V.Volume.state g.S.Source.told (g.S.Source.files l.fn.src) l.fn.area l.area (take l.rec-index l.recs);
  stays : g.S.Source.files l.src ≡ g.S.Source.files l.fn.src;
  counts : g.S.Source.faults l.fn.src ≤ g.S.Source.faults l.src;
}
