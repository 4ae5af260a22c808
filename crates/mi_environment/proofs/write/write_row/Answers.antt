-- The form of the row is carried out.
use Rattle.std.proofs.Common.{List, ℕ, subst}
use Rattle.mi_model.specs.EnvironmentRows.{Form, environment_form}
use Rattle.mi_model.specs.WriteEnvironmentStrings.{write_string}
use Rattle.mi_steps.specs.Makes.{plan_machine}
use Rattle.mi_records.specs.Meaning.{numbered}
use Rattle.mi_records.specs.Rows as made
use Rattle.mi_records.proofs.ClientLemmas.{row_same}
use Rattle.mi_row_steps.proofs.RowLemmas.{row_untold}
use Rattle.mi_variables.specs.Forms.{form_told, meant}
use Rattle.mi_environment.specs.Variables.{write_effect}
use Rattle.mi_environment.proofs.WriteLemmas.{row_writes, row_writes_nothing}
use Rattle.mi_environment.proofs.write.write_row.Goals as goal

pub returns-in-Ok-clause-row : goal.returns-in-Ok-clause-row
returns-in-Ok-clause-row g c = λ held files w same.
    let r = numbered c.args.row.0 c.args.row.1.now in
    let told : made.Row held files c.args.plan.now c.write_form-done.new.plan (write_effect c.args.row.0 c.args.row.1.now.name (form_told c.in-Ok.text)) c.write_form-done.result =
    subst (λ (f : Form). made.Row held files c.args.plan.now c.write_form-done.new.plan (write_effect c.args.row.0 c.args.row.1.now.name f) c.write_form-done.result) c.form_told.ensures
    (subst (λ (n : List ℕ). made.Row held files c.args.plan.now c.write_form-done.new.plan (write_effect c.args.row.0 n (meant c.form_told.result)) c.write_form-done.result) c.as_str.ensures (c.write_form-done.ensures.row held files)) in
    row_same held files c.args.plan.now c.write_form-done.new.plan (write_effect c.args.row.0 c.args.row.1.now.name (form_told c.in-Ok.text)) (write_string w r) c.write_form-done.result
    (row_writes w (g.E.Env.lookups c.args.env.now) r (plan_machine held files c.args.plan.now) same (form_told c.in-Ok.text) c.in-Ok.ensures.form) told

pub returns-in-Err-clause-row : goal.returns-in-Err-clause-row
returns-in-Err-clause-row g c = λ held files w same.
    let L = g.E.Env.lookups c.args.env.now in
    let r = numbered c.args.row.0 c.args.row.1.now in
    row_untold held files c.args.plan.now c.args.plan.now (Unit {0}) form_told (environment_form L r) (write_string w r) c.in-Err.error
    (row_writes_nothing w L r (plan_machine held files c.args.plan.now) same) c.in-Err.ensures.form
