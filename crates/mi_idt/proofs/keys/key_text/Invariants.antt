use Rattle.std.proofs.Common.{◌≡◌, ◌++◌, drop, map}
use Rattle.std.specs.List.{slice_index_or}
use Rattle.mi_idt.specs.Cells.{Nothing}
use Rattle.mi_idt.specs.Means.{column_value}
use Rattle.mi_idt.specs.Rows.{cells_of}
use Rattle.mi_idt.specs.Texts.{tabbed}
use Rattle.mi_idt.specs.Written.{written_cell}
use Rattle.mi_idt.proofs.keys.key_text.Given as goal

abbrev pub invariant-loop-i : goal.invariant-loop-i
invariant-loop-i l = l.out.items ++ tabbed l.i (map (λ k. written_cell (slice_index_or (cells_of (map column_value l.columns) (map (λ b. b.now) l.fields)) k Nothing)) (drop l.i l.keys)) ≡ tabbed 0 (map (λ k. written_cell (slice_index_or (cells_of (map column_value l.columns) (map (λ b. b.now) l.fields)) k Nothing)) l.keys)
