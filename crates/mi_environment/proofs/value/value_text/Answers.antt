-- The Name is judged first.
use Rattle.std.proofs.Common.{◌≡◌, false, sym, ap, subst, ◌∙◌}
use Rattle.std.specs.Prelude.{Result, Some, None}
use Rattle.mi_base.specs.declared.answers.Fault.{Fault}
use Rattle.mi_model.specs.EnvironmentRows.{Form, is_bad_name}
use Rattle.mi_records.specs.Meaning.{numbered}
use Rattle.mi_records.specs.Stops.{TellsBy}
use Rattle.mi_variables.specs.Forms.{form_told}
use Rattle.mi_environment.proofs.ValueLemmas.{ok_so, named_badly, named_well}
use Rattle.mi_environment.proofs.value.value_text.Goals as goal

pub returns-then-is_bad_name-clause-form : goal.returns-then-is_bad_name-clause-form
returns-then-is_bad_name-clause-form g c =
    named_badly (g.E.Env.lookups c.args.env.now) (numbered c.args.number c.args.row.now) (ap is_bad_name (sym c.as_str.ensures) ∙ sym c.is_bad_name.ensures ∙ c.if-is_bad_name.true)

pub returns-in-Some-clause-form : goal.returns-in-Some-clause-form
returns-in-Some-clause-form g c =
    let L = g.E.Env.lookups c.args.env.now in
    let good : is_bad_name c.args.row.now.name ≡ false = ap is_bad_name (sym c.as_str.ensures) ∙ sym c.is_bad_name.ensures ∙ c.if-is_bad_name.false in
    subst (λ (does : Result Form Fault). TellsBy form_told does c.some_text.result)
    (sym (named_well L (numbered c.args.number c.args.row.now) (Some c.as_str-in-Some.result.now) good (c.in-Some.is ∙ ap Some (sym c.as_str-in-Some.ensures)))) c.some_text.ensures

pub returns-in-Some-clause-name : goal.returns-in-Some-clause-name
returns-in-Some-clause-name g c = ok_so (is_bad_name c.args.row.now.name ≡ false) c.some_text.result (ap is_bad_name (sym c.as_str.ensures) ∙ sym c.is_bad_name.ensures ∙ c.if-is_bad_name.false)

pub returns-in-None-clause-form : goal.returns-in-None-clause-form
returns-in-None-clause-form g c =
    named_well (g.E.Env.lookups c.args.env.now) (numbered c.args.number c.args.row.now) None (ap is_bad_name (sym c.as_str.ensures) ∙ sym c.is_bad_name.ensures ∙ c.if-is_bad_name.false) c.in-None.is

pub returns-in-None-clause-name : goal.returns-in-None-clause-name
returns-in-None-clause-name g c = ap is_bad_name (sym c.as_str.ensures) ∙ sym c.is_bad_name.ensures ∙ c.if-is_bad_name.false
