use Rattle.std.proofs.Common.{List, Err, subst, sym, ap, ◌∙◌}
use Rattle.std.specs.Prelude.{Result}
use Rattle.mi_base.specs.declared.answers.Fault.{Fault}
use Rattle.mi_dirs.specs.declared.fault.DirError.{DirError}
use Rattle.mi_dirs.specs.declared.rows.DirRow.{DirRow}
use Rattle.mi_dirs.specs.Answers.{Answers}
use Rattle.mi_dirs.specs.Places.{Place}
use Rattle.mi_dirs.specs.Rows.{given, resolved}
use Rattle.mi_schema.specs.RowsOf.{rows_in}
use Rattle.mi_model.specs.Properties.{in_table}
use Rattle.mi_world.proofs.costing.resolved.Goals as goal

pub returns-in-Ok : goal.returns-in-Ok
unfolding rows_in
returns-in-Ok c =
    ap in_table (ap (λ (rs : List DirRow). resolved (given rs c.args.props.now c.args.remembered.now c.args.folder.now c.args.loaded.now.short_names)) (sym (c.deref.ensures.value ∙ c.in_ok-rows.ensures)) ∙ c.in-Ok.ensures.resolved)

pub returns : goal.returns
unfolding rows_in
returns c =
    let answer = resolved (given c.deref.result.now c.args.props.now c.args.remembered.now c.args.folder.now c.args.loaded.now.short_names) in
    let refused = subst (λ (e : DirError). Answers {X = List Place} (Err e) answer) c.in-Err-Fault.field-0-is c.in-Err-Fault.ensures.resolved in
    ap in_table (ap (λ (rs : List DirRow). resolved (given rs c.args.props.now c.args.remembered.now c.args.folder.now c.args.loaded.now.short_names)) (sym (c.deref.ensures.value ∙ c.in_ok-rows.ensures)) ∙ refused)
    ∙ ap (λ (f : Fault). let r : Result (List Place) Fault = Err f in r) (sym c.in_ok-fault-in-Err-Fault.ensures)
