use Rattle.std.proofs.Common.{◌≡◌, ◌-◌, ◌≤◌, length, take}
use Rattle.std.specs.FinMap.{get}
use Rattle.mi_source.specs.Paths.{bytes_or_none}
use Rattle.mi_runner.proofs.files.read_front.Given as goal

abbrev pub invariant-loop-alloc : goal.invariant-loop-alloc
invariant-loop-alloc g l = record {
  front : g.S.Source.told → l.bytes ≡ take (length l.bytes) (bytes_or_none (get (g.S.Source.files l.initial.src) l.path));
  short : length l.bytes ≤ l.want;
  stays : g.S.Source.files l.src ≡ g.S.Source.files l.initial.src;
  counts : g.S.Source.faults l.initial.src ≤ g.S.Source.faults l.src;
}

abbrev pub decreases-loop-alloc : goal.decreases-loop-alloc
decreases-loop-alloc g l = l.want - length l.bytes
