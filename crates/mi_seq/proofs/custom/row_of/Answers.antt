-- The row by its key, with its number.
use Rattle.mi_schema.specs.RowsOf.{rows_in}
use Rattle.mi_seq.proofs.CustomLemmas.{row_found, row_missing}
use Rattle.mi_seq.proofs.custom.row_of.Goals as goal

pub returns-in-Some : goal.returns-in-Some
unfolding rows_in
returns-in-Some c = row_found c.args.action.now c.args.loaded.now.custom_action.entries c.keys_stand.ensures.custom_action c.in-Some.place c.in-Some.row.now c.in-Some.ensures.index c.in-Some.ensures.value

pub returns-in-None : goal.returns-in-None
unfolding rows_in
returns-in-None c = row_missing c.args.action.now c.args.loaded.now.custom_action.entries c.keys_stand.ensures.custom_action c.in-None.ensures.index
