use Rattle.std.proofs.Common.{◌≡◌}
use Rattle.mi_idt.specs.Means.{meaning}
use Rattle.mi_rows.specs.Columns.{table_as}
use Rattle.mi_rows.specs.Typed.{keyed}
use Rattle.mi_rows.specs.Rows.{rows_in}
use Rattle.mi_rows.proofs.TableLemmas.{read_spelled}
use Rattle.mi_rows.proofs.table.read_bytes.Goals as goal

pub returns-in-Ok : goal.returns-in-Ok
returns-in-Ok g c =
    let spelled = c.in-Ok.ensures.reads in
    read_spelled (λ _ value. c.read_spelled.new.rows.entries ≡ keyed g.K.Key.key g.R.TableRow.value (rows_in (table_as c.args.layout.now) value)) (table_as c.args.layout.now) c.args.bytes.now c.in-Ok.table c.read_spelled.result spelled (c.in-Ok.ensures.exact.1 (meaning c.in-Ok.table, spelled.spells)) c.read_spelled.ensures
