-- The variable has a name, so that only a long value has no record.
use Rattle.std.proofs.Common.{ap, sym, subst, ◌∙◌}
use Rattle.std.specs.Prelude.{codes}
use Rattle.mi_base.specs.declared.entry.Entry.{Entry}
use Rattle.mi_base.specs.Limits.{fits}
use Rattle.mi_model.specs.EnvironmentRows.{is_of_system, variable_in}
use Rattle.mi_steps.specs.Makes.{is_file}
use Rattle.mi_records.specs.Values.{is_too_large}
use Rattle.mi_row_steps.specs.Sizes.{Put}
use Rattle.mi_environment.proofs.VariableLemmas.{good_variable, variable_large}
use Rattle.mi_environment.proofs.write.put_text.Goals as goal

pub put_sized-requires-clause-large : goal.put_sized-requires-clause-large
put_sized-requires-clause-large c = λ unfit.
    let name = c.args.name.now in
    ap is_too_large c.in-Ok.ensures ∙ variable_large (record { system = is_of_system name; name = variable_in name; value = c.args.text }) (good_variable name c.requires) (ap fits (sym c.in-Ok.ensures) ∙ unfit)

pub put_sized-requires-clause-plain : goal.put_sized-requires-clause-plain
put_sized-requires-clause-plain c = ap is_file c.in-Ok.ensures

pub returns-in-Ok-clause-put : goal.returns-in-Ok-clause-put
returns-in-Ok-clause-put c = λ held files.
    subst (λ (e : Entry). Put held files c.args.plan.now c.put_sized.new.plan (codes "Environment") c.args.number e c.put_sized.result) c.in-Ok.ensures (c.put_sized.ensures.put held files)
