use Rattle.std.proofs.Common.{◌≡◌, ◌≤◌, ◌-◌, ◌++◌, List, ℕ}
use Rattle.std.specs.FinMap.{get}
use Rattle.md5.specs.Md5.{Holds}
use Rattle.mi_source.specs.Paths.{bytes_or_none}
use Rattle.mi_hashes.proofs.PieceLemmas.{between}
use Rattle.mi_hashes.proofs.pieces.add_copied.Given as goal

abbrev pub invariant-loop-at : goal.invariant-loop-at
invariant-loop-at g l =
    record {
      high : l.at ≤ l.length;
      adds : g.S.Source.told → (m : List ℕ) → Holds l.fn.hasher m → Holds l.hasher (m ++ between (bytes_or_none (get (g.S.Source.files l.fn.src) l.path)) 0 l.at);
      stays : g.S.Source.files l.src ≡ g.S.Source.files l.fn.src;
      counts : g.S.Source.faults l.fn.src ≤ g.S.Source.faults l.src;
    }

abbrev pub decreases-loop-at : goal.decreases-loop-at
decreases-loop-at g l = l.length - l.at
