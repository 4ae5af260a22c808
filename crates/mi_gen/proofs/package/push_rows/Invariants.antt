use Rattle.std.proofs.Common.{◌≡◌, ◌++◌}
use Rattle.mi_gen.proofs.RowLemmas.{written_from}
use Rattle.mi_gen.proofs.package.push_rows.Given as goal

abbrev pub invariant-loop-file : goal.invariant-loop-file
invariant-loop-file l = l.out.items ++ written_from l.table l.file l.files ≡ l.fn.out.items ++ written_from l.table 0 l.files
