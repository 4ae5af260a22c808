use Rattle.std.proofs.Common.{◌≡◌, ◌+◌, ℕ, List, [], drop, take, map, nat_cmp}
use Rattle.std.specs.BTreeSet.{contains_by}
use Rattle.std.specs.Cmp.Lexicographic.{slice_cmp}
use Rattle.std.specs.List.{list_any}
use Rattle.std.specs.Str.{bytes_eq}
use Rattle.mi_idt.specs.RowKey.{row_key}
use Rattle.mi_idt.specs.Texts.{repeat_of}
use Rattle.mi_idt.proofs.keys.first_written.Given as goal

abbrev pub invariant-loop-i : goal.invariant-loop-i
invariant-loop-i l = record {
  held : (q : List ℕ) → contains_by (slice_cmp nat_cmp q) l.seen ≡ list_any (bytes_eq q) (map (row_key l.columns l.keys) (take l.i l.rows));
  rest : repeat_of (map (row_key l.columns l.keys) (take l.i l.rows)) (l.i + 1) (map (row_key l.columns l.keys) (drop l.i l.rows)) ≡ repeat_of [] 1 (map (row_key l.columns l.keys) l.rows);
}
