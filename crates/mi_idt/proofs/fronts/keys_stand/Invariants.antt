use Rattle.std.proofs.Common.{take}
use Rattle.std.specs.List.{All}
use Rattle.mi_idt.specs.RowKey.{KeyStands}
use Rattle.mi_idt.proofs.fronts.keys_stand.Given as goal

abbrev pub invariant-loop-i : goal.invariant-loop-i
invariant-loop-i l = All (KeyStands l.columns l.keys) (take l.i l.rows)
