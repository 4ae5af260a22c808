-- What the rows in order tell.
use Rattle.std.proofs.Common.{List, ap, ◌∙◌, subst, map, Bor}
use Rattle.mi_image.specs.Items.{machine_over}
use Rattle.mi_schema.specs.RowsOf.{rows_in}
use Rattle.mi_schema.specs.declared.typed_rows.ComponentRow.{ComponentRow}
use Rattle.mi_world.specs.Recall.{in_order, AreToldBy}
use Rattle.mi_world.proofs.RecallLemmas.{remembered_is}
use Rattle.mi_world.proofs.recall.remembered.Goals as goal

pub returns-clause-remembered : goal.returns-clause-remembered
returns-clause-remembered c = λ held files.
    let rows = rows_in c.args.loaded.now in
    let m = machine_over held files c.args.image.now in
    let told = subst (λ n. AreToldBy m n (in_order rows.component) 0 c.in_ok-table.table) c.product_code.ensures
    (subst (λ (rs : List ComponentRow). AreToldBy m c.product_code.result.number rs 0 c.in_ok-table.table) (ap (map (λ (r : Bor ComponentRow). r.now)) c.deref.ensures.value ∙ c.in_ok-rows.ensures) (c.in_ok-table.ensures held files)) in
    remembered_is rows m c.in_ok-table.table c.in_ok-folders.folders.items told c.in_ok-folders.ensures.told

pub returns-clause-folders : goal.returns-clause-folders
returns-clause-folders c = c.in_ok-folders.ensures.folders
