use Rattle.std.proofs.Common.{sym, ◌∙◌}
use Rattle.mi_image.specs.Items.{machine_over}
use Rattle.mi_schema.specs.RowsOf.{rows_in}
use Rattle.mi_world.proofs.CostLemmas.{resolved_so, refused_so, keys_so}
use Rattle.mi_world.proofs.RecallLemmas.{remembered_so}
use Rattle.mi_world.proofs.costing.place.Goals as goal

pub returns-in-Ok-clause-dirs : goal.returns-in-Ok-clause-dirs
returns-in-Ok-clause-dirs c = λ held files g same there at.
    let told = c.deref.ensures.value ∙ c.in_ok-remembered.ensures.remembered held files ∙ remembered_so (rows_in c.args.loaded.now) (machine_over held files c.args.image.now) g same there in
    sym (resolved_so g c.args.props.now (rows_in c.args.loaded.now) c.deref.result.now c.args.folder.now same told at) ∙ c.in-Ok.ensures

pub returns-clause-dirs : goal.returns-clause-dirs
returns-clause-dirs c = λ held files g same there at.
    let told = c.deref.ensures.value ∙ c.in_ok-remembered.ensures.remembered held files ∙ remembered_so (rows_in c.args.loaded.now) (machine_over held files c.args.image.now) g same there in
    refused_so c.in-Err.error _ _ (resolved_so g c.args.props.now (rows_in c.args.loaded.now) c.deref.result.now c.args.folder.now same told at) c.in-Err.ensures

pub returns-in-Ok-clause-keys : goal.returns-in-Ok-clause-keys
returns-in-Ok-clause-keys c = keys_so (rows_in c.args.loaded.now) c.args.props.now c.deref.result.now c.args.folder.now c.in-Ok.dirs c.in-Ok.ensures
