use Rattle.std.proofs.Common.{◌≡◌, ◌+◌, drop}
use Rattle.mi_cond.specs.Lex.{is_name_byte}
use Rattle.mi_cond.specs.Fronts.{front_length}
use Rattle.mi_cond.proofs.front.name_length.Given as goal

abbrev pub invariant-loop-i : goal.invariant-loop-i
invariant-loop-i l = front_length is_name_byte l.text ≡ l.i + front_length is_name_byte (drop l.i l.text)
