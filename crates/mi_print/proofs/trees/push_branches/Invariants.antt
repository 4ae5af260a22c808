use Rattle.std.proofs.Common.{◌≡◌, ◌++◌, ◌≤◌, ◌+◌, drop}
use Rattle.mi_print.specs.Trees.{branches}
use Rattle.mi_print.proofs.trees.push_branches.Given as goal

abbrev pub invariant-loop-byte : goal.invariant-loop-byte
invariant-loop-byte l = record {
  text : l.out.items ++ branches l.folders (drop l.byte-index l.path) ≡ l.fn.out.items ++ branches l.fn.folders l.path;
  few : l.folders ≤ l.fn.folders + l.byte-index;
}
