use Rattle.std.proofs.Common.{◌≡◌, ◌++◌, drop}
use Rattle.mi_model.specs.Lines.{shown}
use Rattle.mi_report.proofs.words.push_shown.Given as goal

abbrev pub invariant-loop-byte : goal.invariant-loop-byte
invariant-loop-byte l = l.out.items ++ shown (drop l.byte-index l.byte-items) ≡ l.fn.out.items ++ shown l.byte-items
