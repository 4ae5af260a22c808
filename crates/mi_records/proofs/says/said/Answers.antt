use Rattle.std.proofs.Common.{List, ℕ, Option, Some, sym, ap, subst, ◌∙◌}
use Rattle.mi_model.specs.Refusals.{expanded}
use Rattle.mi_model.specs.RegistryRows.{said}
use Rattle.mi_records.specs.Meaning.{meant}
use Rattle.mi_records.specs.Stops.{AnswersBy}
use Rattle.mi_records.proofs.says.said.Goals as goal

pub returns-in-Some : goal.returns-in-Some
returns-in-Some g c = λ table row.
    subst (λ (v : Option (List ℕ)). AnswersBy meant table row (said c.args.field.now c.args.name.now v (expanded (g.E.Env.lookups c.args.env.now) table row)) c.writes.result)
    (sym (c.in-Some.is ∙ ap Some (sym c.as_str.ensures))) (c.writes.ensures table c.args.name.now c.args.field.now row)
