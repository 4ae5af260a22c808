use Rattle.std.proofs.Common.{◌≡◌, ◌≤◌, drop}
use Rattle.mi_idt.proofs.Numbers.{capped_on}
use Rattle.mi_idt.proofs.number.numeral.Given as goal

abbrev pub invariant-loop-digit : goal.invariant-loop-digit
invariant-loop-digit l = record {
  small : l.number ≤ 4294967295;
  same : capped_on l.number (drop l.digit-index l.field) ≡ capped_on 0 l.field;
}
