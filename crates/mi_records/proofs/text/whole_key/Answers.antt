use Rattle.std.proofs.Common.{List, ℕ, sym, ap, subst, ◌∙◌}
use Rattle.std.specs.Prelude.{Result, Ok}
use Rattle.mi_base.specs.declared.answers.Fault.{Fault}
use Rattle.mi_model.specs.Refusals.{expanded}
use Rattle.mi_model.specs.RegistryRows.{good_key}
use Rattle.mi_records.specs.Columns.{key_of}
use Rattle.mi_records.specs.Stops.{Answers}
use Rattle.mi_records.proofs.MeaningLemmas.{refused_as}
use Rattle.mi_records.proofs.TextLemmas.{bound_ok, bound_err}
use Rattle.mi_records.proofs.text.whole_key.Goals as goal

pub returns-in-Ok-clause-value : goal.returns-in-Ok-clause-value
returns-in-Ok-clause-value g c = λ table row.
    let does = expanded (g.E.Env.lookups c.args.env.now) table row c.args.key.now in
    subst (λ (d : Result (List ℕ) Fault). Answers table row d c.key_in.result) (sym (bound_ok (good_key table row) does c.as_str.result.now (c.in-Ok.ensures table row ∙ ap Ok (sym c.as_str.ensures)))) (c.key_in.ensures.value table row)

pub returns-in-Err-clause-value : goal.returns-in-Err-clause-value
returns-in-Err-clause-value g c = λ table row.
    let does = expanded (g.E.Env.lookups c.args.env.now) table row c.args.key.now in
    refused_as (λ (t : List ℕ). t) (λ (t : List ℕ). t) table row does (key_of (g.E.Env.lookups c.args.env.now) table row c.args.key.now) c.in-Err.stop (bound_err (good_key table row) does) (c.in-Err.ensures table row)
