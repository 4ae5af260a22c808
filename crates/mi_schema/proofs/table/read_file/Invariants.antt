use Rattle.std.proofs.Common.{◌-◌, length}
use Rattle.mi_schema.proofs.Words.{ReadSoFar}
use Rattle.mi_schema.proofs.table.read_file.Given as goal

abbrev pub invariant-loop-alloc : goal.invariant-loop-alloc
invariant-loop-alloc g l = ReadSoFar g.S.Source.told (g.S.Source.files l.initial.src) (g.S.Source.files l.src) (g.S.Source.faults l.initial.src) (g.S.Source.faults l.src) l.path l.bytes

abbrev pub decreases-loop-alloc : goal.decreases-loop-alloc
decreases-loop-alloc g l = l.size - length l.bytes
