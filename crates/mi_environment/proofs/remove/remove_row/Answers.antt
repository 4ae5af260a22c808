-- The form of the row is carried out.
use Rattle.std.proofs.Common.{List, ℕ, Bool, ap, subst, ◌∙◌}
use Rattle.std.specs.Prelude.{Ok}
use Rattle.mi_model.specs.EnvironmentRows.{Form, environment_form}
use Rattle.mi_model.specs.RemoveEnvironmentStrings.{is_guarded_variable, remove_string}
use Rattle.mi_steps.specs.Makes.{plan_machine}
use Rattle.mi_records.specs.Meaning.{numbered}
use Rattle.mi_records.specs.Rows as made
use Rattle.mi_records.proofs.ClientLemmas.{row_same}
use Rattle.mi_row_steps.proofs.RowLemmas.{row_untold}
use Rattle.mi_variables.specs.Forms.{form_told, meant}
use Rattle.mi_environment.specs.Variables.{taken_touches}
use Rattle.mi_environment.proofs.TakeLemmas.{row_takes, row_takes_nothing}
use Rattle.mi_environment.proofs.remove.remove_row.Goals as goal

pub returns-in-Ok-clause-row : goal.returns-in-Ok-clause-row
returns-in-Ok-clause-row g c = λ held files w asked guards.
    let L = g.S.Env.lookups c.args.seen.now in
    let choices = g.S.Sees.choices c.args.seen.now in
    let guarded = is_guarded_variable w in
    let r = numbered c.args.row.0 c.args.row.1.now in
    let done = c.take_row-done.result in
    let after = c.take_row-done.new.plan in
    let told : made.Row held files c.args.plan.now after (λ m. Ok (taken_touches (choices.leaving r.row.component) guarded r.row.name (form_told c.in-Ok.text))) done =
    subst (λ (f : Form). made.Row held files c.args.plan.now after (λ m. Ok (taken_touches (choices.leaving r.row.component) guarded r.row.name f)) done) c.form_told.ensures
    (subst (λ (n : List ℕ). made.Row held files c.args.plan.now after (λ m. Ok (taken_touches (choices.leaving r.row.component) guarded n (meant c.form_told.result))) done) c.as_str-name.ensures
    (subst (λ (b : Bool). made.Row held files c.args.plan.now after (λ m. Ok (taken_touches b guarded c.as_str-name.result.now (meant c.form_told.result))) done) (c.leaves-leaving.ensures ∙ ap choices.leaving c.as_str.ensures) (c.take_row-done.ensures.row guarded held files guards))) in
    row_same held files c.args.plan.now after (λ m. Ok (taken_touches (choices.leaving r.row.component) guarded r.row.name (form_told c.in-Ok.text))) (remove_string w r) done
    (row_takes L choices (g.S.Sees.rows c.args.seen.now) w asked r (plan_machine held files c.args.plan.now) (form_told c.in-Ok.text) c.in-Ok.ensures.form) told

pub returns-in-Err-clause-row : goal.returns-in-Err-clause-row
returns-in-Err-clause-row g c = λ held files w asked guards.
    let L = g.S.Env.lookups c.args.seen.now in
    let r = numbered c.args.row.0 c.args.row.1.now in
    row_untold held files c.args.plan.now c.args.plan.now (Unit {0}) form_told (environment_form L r) (remove_string w r) c.in-Err.error
    (row_takes_nothing L (g.S.Sees.choices c.args.seen.now) (g.S.Sees.rows c.args.seen.now) w asked r (plan_machine held files c.args.plan.now)) c.in-Err.ensures.form
