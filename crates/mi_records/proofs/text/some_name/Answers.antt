use Rattle.std.proofs.Common.{List, ℕ}
use Rattle.mi_model.specs.Refusals.{expanded}
use Rattle.mi_model.specs.RegistryRows.{good_name}
use Rattle.mi_records.specs.Columns.{judged_name}
use Rattle.mi_records.proofs.TextLemmas.{within_refused, bound_err}
use Rattle.mi_records.proofs.text.some_name.Goals as goal

pub returns-in-Ok-clause-value : goal.returns-in-Ok-clause-value
returns-in-Ok-clause-value g c = λ table row. c.good_name.ensures.value table row (expanded (g.E.Env.lookups c.args.env.now) table row c.args.name.now) (c.in-Ok.ensures table row)

pub returns-in-Err-clause-value : goal.returns-in-Err-clause-value
returns-in-Err-clause-value g c = λ table row.
    let does = expanded (g.E.Env.lookups c.args.env.now) table row c.args.name.now in
    within_refused (λ (t : List ℕ). t) 500 table row does (judged_name table row does) c.in-Err.stop (bound_err (good_name table row) does) (c.in-Err.ensures table row)
