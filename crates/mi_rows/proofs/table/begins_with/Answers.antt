use Rattle.std.proofs.Common.{map, sym, arith}
use Rattle.std.proofs.lemmas.List.{length-map}
use Rattle.mi_idt.specs.Means.{column_value}
use Rattle.mi_rows.specs.Columns.{column_as}
use Rattle.mi_rows.proofs.ColumnLemmas.{begins_short}
use Rattle.mi_rows.proofs.table.begins_with.Goals as goal

pub returns-then-columns-known : goal.returns-then-columns-known
returns-then-columns-known c = sym (begins_short (map column_as c.args.known.now) (map column_value c.args.columns.now) (omega (arith, length-map c.args.known.now column_as, length-map c.args.columns.now column_value)))
