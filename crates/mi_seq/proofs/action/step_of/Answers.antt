-- A standard action, or a custom one.
use Rattle.mi_schema.specs.RowsOf.{rows_in}
use Rattle.mi_seq.proofs.StandardLemmas.{standard_answers, custom_answers}
use Rattle.mi_seq.proofs.action.step_of.Goals as goal

pub returns-in-Some : goal.returns-in-Some
returns-in-Some g c = λ begun r. standard_answers (rows_in c.args.loaded.now) (g.E.Env.lookups c.args.env.now) begun c.args.action.now c.as_str.result.now c.as_str-in-Some.result.now c.in-Some.standard c.step.result
    c.as_str.ensures c.as_str-in-Some.ensures c.in-Some.ensures.found (c.step.ensures begun r)

pub returns-in-None : goal.returns-in-None
returns-in-None g c = λ begun r. custom_answers (rows_in c.args.loaded.now) (g.E.Env.lookups c.args.env.now) begun c.args.action.now c.as_str.result.now c.custom_step.result
    c.as_str.ensures c.in-None.ensures.found (c.custom_step.ensures begun r)
