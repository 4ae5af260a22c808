-- By the form.
use Rattle.std.proofs.Common.{sym, ap, ◌∙◌}
use Rattle.mi_model.specs.EnvironmentRows.{form_of, is_bad_form}
use Rattle.mi_environment.proofs.ValueLemmas.{bad_text, right_text}
use Rattle.mi_environment.proofs.value.good_text.Goals as goal

pub returns-then-is_bad_form : goal.returns-then-is_bad_form
returns-then-is_bad_form c = bad_text c.args.number (form_of c.args.text) (ap is_bad_form (sym (c.form_of.ensures ∙ ap form_of c.as_str.ensures)) ∙ sym c.is_bad_form.ensures ∙ c.if-is_bad_form.true)

pub returns : goal.returns
returns c = right_text c.args.number (form_of c.args.text) (ap is_bad_form (sym (c.form_of.ensures ∙ ap form_of c.as_str.ensures)) ∙ sym c.is_bad_form.ensures ∙ c.if-is_bad_form.false)
