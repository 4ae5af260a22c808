use Rattle.std.proofs.Common.{map}
use Rattle.mi_schema.proofs.LoadLemmas.{table_in, LoadedSoFar}
use Rattle.mi_schema.proofs.load.load_tables.Given as goal

abbrev pub invariant-loop-table : goal.invariant-loop-table
invariant-loop-table g l = LoadedSoFar g.S.Source.told (g.S.Source.files l.initial.src) (g.S.Source.files l.src) (g.S.Source.faults l.initial.src) (g.S.Source.faults l.src) l.folder (map table_in l.table-items) l.table-index l.loaded
