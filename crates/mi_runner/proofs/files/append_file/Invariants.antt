use Rattle.std.proofs.Common.{◌≡◌, ◌-◌, ◌≤◌}
use Rattle.std.specs.FinMap.{get}
use Rattle.mi_source.specs.Paths.{bytes_or_none}
use Rattle.mi_runner.proofs.AppendLemmas.{Filling}
use Rattle.mi_runner.proofs.files.append_file.Given as goal

abbrev pub invariant-loop-at : goal.invariant-loop-at
invariant-loop-at g l = record {
  filling : Filling g.V.Volume.told g.V.Volume.state g.S.Source.told l.fn.area l.area l.name (bytes_or_none (get (g.S.Source.files l.fn.src) l.path)) l.at l.stated;
  stays : g.S.Source.files l.src ≡ g.S.Source.files l.fn.src;
  counts : g.S.Source.faults l.fn.src ≤ g.S.Source.faults l.src;
}

abbrev pub decreases-loop-at : goal.decreases-loop-at
decreases-loop-at g l = l.stated - l.at
