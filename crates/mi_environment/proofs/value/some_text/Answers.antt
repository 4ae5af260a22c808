-- The text, or why there is none.
use Rattle.std.proofs.Common.{List, ℕ, sym, subst}
use Rattle.std.specs.Prelude.{Result, Some, codes}
use Rattle.mi_base.specs.declared.answers.Fault.{Fault}
use Rattle.mi_model.specs.Refusals.{expanded}
use Rattle.mi_model.specs.EnvironmentRows.{Form, form_in}
use Rattle.mi_records.specs.Stops.{TellsBy}
use Rattle.mi_variables.specs.Forms.{form_told}
use Rattle.mi_row_steps.proofs.RowLemmas.{told_on}
use Rattle.mi_environment.proofs.ValueLemmas.{value_is, value_none}
use Rattle.mi_environment.proofs.value.some_text.Goals as goal

pub returns-in-Ok : goal.returns-in-Ok
returns-in-Ok g c =
    let L = g.E.Env.lookups c.args.env.now in
    subst (λ (does : Result Form Fault). TellsBy form_told does c.good_text.result) (sym (value_is L c.args.number c.args.value.now c.in-Ok.text c.in-Ok.ensures)) c.good_text.ensures

pub returns-in-Err : goal.returns-in-Err
returns-in-Err g c =
    let L = g.E.Env.lookups c.args.env.now in
    told_on (λ (t : List ℕ). t) form_told (expanded L (codes "Environment") c.args.number c.args.value.now) (form_in L c.args.number (Some c.args.value.now)) c.in-Err.error (value_none L c.args.number c.args.value.now) c.in-Err.ensures
