use Rattle.std.proofs.Common.{◌≡◌, ◌≤◌, take}
use Rattle.mi_text.specs.Path.{up_to_last}
use Rattle.mi_print.proofs.trees.folder_len.Given as goal

abbrev pub invariant-loop-i : goal.invariant-loop-i
invariant-loop-i l = record {
  folder : take l.end l.bytes ≡ up_to_last (take l.i l.bytes);
  within : l.end ≤ l.i;
}
