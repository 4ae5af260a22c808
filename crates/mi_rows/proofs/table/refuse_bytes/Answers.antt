use Rattle.mi_idt.specs.Means.{meaning}
use Rattle.mi_rows.specs.Columns.{refused}
use Rattle.mi_rows.proofs.TableLemmas.{read_spelled}
use Rattle.mi_rows.proofs.table.refuse_bytes.Goals as goal

pub returns-in-Ok : goal.returns-in-Ok
returns-in-Ok c =
    let spelled = c.in-Ok.ensures.reads in
    read_spelled (λ _ _. Unit {0}) (refused c.args.name.now) c.args.bytes.now c.in-Ok.table c.refuse_spelled.result spelled (c.in-Ok.ensures.exact.1 (meaning c.in-Ok.table, spelled.spells)) c.refuse_spelled.ensures
