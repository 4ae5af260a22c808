-- A value, or what stands where there is none.
use Rattle.std.proofs.Common.{Option, subst}
use Rattle.mi_schema.specs.declared.typed_rows.RegistryRow.{RegistryRow}
use Rattle.mi_schema.specs.RowsOf.{rows_in}
use Rattle.mi_schema.specs.TableRows.{Numbered}
use Rattle.mi_model.specs.KeyPaths.{file_row, of_rows, key_path_of}
use Rattle.mi_wishes.specs.Answers.{Gives}
use Rattle.mi_select.specs.KeyPaths.{meant}
use Rattle.mi_select.proofs.key_path.key_path_of.Goals as goal

pub returns-in-Some : goal.returns-in-Some
unfolding key_path_of
returns-in-Some g c =
    let rows = rows_in c.args.loaded.now in
    subst (λ (o : Option (Numbered RegistryRow)). Gives c.of_value.result meant (of_rows rows c.args.dirs.now (g.E.Env.lookups c.args.env.now) c.args.row.now o (file_row rows c.args.row.now))) c.in-Some.ensures.row c.of_value.ensures

pub returns-in-None : goal.returns-in-None
unfolding key_path_of
returns-in-None g c =
    let rows = rows_in c.args.loaded.now in
    let L = g.E.Env.lookups c.args.env.now in
    subst (λ (o : Option (Numbered RegistryRow)). Gives c.without_value.result meant (of_rows rows c.args.dirs.now L c.args.row.now o (file_row rows c.args.row.now))) c.in-None.ensures.row (c.without_value.ensures L)
