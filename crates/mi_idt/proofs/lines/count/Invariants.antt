use Rattle.std.proofs.Common.{◌≡◌, ◌==◌, length, count_by, ◌+◌, ◌≤◌}
use Rattle.mi_idt.proofs.lines.count.Given as goal

abbrev pub invariant-loop : goal.invariant-loop
invariant-loop l =
    record {
      so_far : l.marks + length l.iterator' ≡ count_by (λ b. b == l.mark) l.bytes;
      within : l.marks + length l.iterator' ≤ length l.bytes;
    }
