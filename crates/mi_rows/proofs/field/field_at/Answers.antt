use Rattle.std.proofs.lemmas.List.{get_or_default}
use Rattle.mi_rows.proofs.FieldLemmas.{cell_there, cell_absent}
use Rattle.mi_rows.proofs.field.field_at.Goals as goal

pub returns-then-column-row-clause-some : goal.returns-then-column-row-clause-some
returns-then-column-row-clause-some c = cell_there c.args.row.now c.args.column _ c.if-column-row.true (get_or_default c.args.row.now c.args.column _ _ c.if-column-row.true)

pub returns-else-column-row-clause-none : goal.returns-else-column-row-clause-none
returns-else-column-row-clause-none c = cell_absent c.args.row.now c.args.column c.if-column-row.false
