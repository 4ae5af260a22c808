use Rattle.std.proofs.Common.{List, ℕ}
use Rattle.mi_model.specs.Refusals.{expanded}
use Rattle.mi_records.proofs.TextLemmas.{within_refused}
use Rattle.mi_records.proofs.text.whole_text.Goals as goal

pub returns-in-Ok : goal.returns-in-Ok
returns-in-Ok g c = λ table row. c.whole.ensures 67108864 table row (expanded (g.E.Env.lookups c.args.env.now) table row c.args.text.now) (c.in-Ok.ensures table row)

pub returns-in-Err : goal.returns-in-Err
returns-in-Err g c = λ table row.
    let does = expanded (g.E.Env.lookups c.args.env.now) table row c.args.text.now in
    within_refused (λ (t : List ℕ). t) 67108864 table row does does c.in-Err.stop (λ f is. is) (c.in-Err.ensures table row)
