use Rattle.std.proofs.Common.{◌≡◌, ◌≤◌, ◌<◌, ◌++◌, ℕ, drop, get_or}
use Rattle.std.specs.Str.{IsCharBoundary}
use Rattle.mi_idt.specs.Fields.{fields_of}
use Rattle.mi_idt.proofs.Basics.{shown}
use Rattle.mi_idt.proofs.lines.push_fields.Given as goal

abbrev pub invariant-loop-i : goal.invariant-loop-i
invariant-loop-i l = record {
  within : l.start ≤ l.i;
  cut : IsCharBoundary l.line l.start;
  none : (k : ℕ) → l.start ≤ k → k < l.i → get_or l.line k 0 ≡ 9 → ⊥;
  same : shown l.fields.items ++ fields_of (drop l.start l.line) ≡ shown l.fn.fields.items ++ fields_of l.line;
}
