use Rattle.std.proofs.Common.{◌≡◌, ◌+◌, [], ◌++◌, drop, map}
use Rattle.std.specs.List.{slice_index_or}
use Rattle.mi_idt.specs.Cells.{names_of}
use Rattle.mi_idt.specs.Means.{column_value}
use Rattle.mi_idt.specs.Texts.{tabbed}
use Rattle.mi_idt.proofs.write.push_keys.Given as goal

abbrev pub invariant-loop-i : goal.invariant-loop-i
invariant-loop-i l = l.out.items ++ tabbed (l.i + 1) (map (λ k. slice_index_or (names_of (map column_value l.columns)) k []) (drop l.i l.keys)) ≡ l.fn.out.items ++ tabbed 1 (map (λ k. slice_index_or (names_of (map column_value l.columns)) k []) l.keys)
