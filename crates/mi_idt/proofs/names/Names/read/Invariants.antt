use Rattle.std.proofs.Common.{◌≡◌, ◌+◌, [], take, drop, map}
use Rattle.mi_idt.specs.Columns.{names_fault}
use Rattle.mi_idt.specs.Index.{IsIndex}
use Rattle.mi_idt.proofs.names.Names.read.Given as goal

abbrev pub invariant-loop-i : goal.invariant-loop-i
invariant-loop-i l = record {
  indexed : IsIndex l.places (map (λ b. b.now) (take l.i l.name-items));
  faults : names_fault (map (λ b. b.now) (take l.i l.name-items)) (l.i + 1) (map (λ b. b.now) (drop l.i l.name-items)) ≡ names_fault [] 1 (map (λ b. b.now) l.name-items);
}
