use Rattle.std.proofs.Common.{List, ℕ, Option, Some, sym, ap, subst, ◌∙◌}
use Rattle.mi_model.specs.RegistryRows.{good_name}
use Rattle.mi_records.specs.Columns.{name_of}
use Rattle.mi_records.specs.Stops.{Answers}
use Rattle.mi_records.proofs.text.whole_name.Goals as goal

pub returns-in-Some-clause-value : goal.returns-in-Some-clause-value
returns-in-Some-clause-value g c = λ table row.
    subst (λ (o : Option (List ℕ)). Answers table row (name_of (g.E.Env.lookups c.args.env.now) table row o) c.some_name.result)
    (sym (c.in-Some.is ∙ ap Some (sym c.as_str.ensures))) (c.some_name.ensures.value table row)

pub returns-in-None-clause-value : goal.returns-in-None-clause-value
returns-in-None-clause-value g c = λ table row.
    subst (λ (o : Option (List ℕ)). Answers table row (name_of (g.E.Env.lookups c.args.env.now) table row o) c.judged.result) (sym c.in-None.is)
    (subst (λ (t : List ℕ). Answers table row (good_name table row t) c.judged.result) c.new.ensures (c.judged.ensures.value table row))
