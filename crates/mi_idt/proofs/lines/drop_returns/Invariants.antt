use Rattle.std.proofs.Common.{◌≡◌, take, drop, map, length}
use Rattle.std.specs.Str.Lines.{strip_carriage_return}
use Rattle.mi_idt.proofs.Basics.{shown}
use Rattle.mi_idt.proofs.lines.drop_returns.Given as goal

abbrev pub invariant-loop-i : goal.invariant-loop-i
invariant-loop-i l = record {
  long : length l.lines.items ≡ length l.fn.lines.items;
  front : shown (take l.i l.lines.items) ≡ map strip_carriage_return (shown (take l.i l.fn.lines.items));
  back : drop l.i l.lines.items ≡ drop l.i l.fn.lines.items;
}
