use Rattle.std.proofs.Common.{◌≡◌, ◌+◌, ℕ, List, [], drop, take, map, Bor}
use Rattle.std.specs.HashSet.{contains_by}
use Rattle.std.specs.List.{list_any}
use Rattle.mi_idt.specs.RowKey.{row_front}
use Rattle.mi_idt.specs.Texts.{repeat_by, same_fields}
use Rattle.mi_idt.proofs.Basics.{shown}
use Rattle.mi_idt.proofs.FrontLaws.{same_slices}
use Rattle.mi_idt.proofs.fronts.first_same.Given as goal

abbrev pub invariant-loop-i : goal.invariant-loop-i
invariant-loop-i l = record {
  held : (q : Bor (List (Bor (List ℕ)))) → contains_by (same_slices q) l.seen ≡ list_any (same_fields (shown q.now)) (map (row_front l.count) (take l.i l.rows));
  rest : repeat_by same_fields (map (row_front l.count) (take l.i l.rows)) (l.i + 1) (map (row_front l.count) (drop l.i l.rows)) ≡ repeat_by same_fields [] 1 (map (row_front l.count) l.rows);
}
