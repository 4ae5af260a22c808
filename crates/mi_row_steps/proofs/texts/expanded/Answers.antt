use Rattle.std.proofs.Common.{List, ℕ}
use Rattle.mi_model.specs.Refusals.{expanded}
use Rattle.mi_records.proofs.MeaningLemmas.{tells_refused}
use Rattle.mi_row_steps.proofs.texts.expanded.Goals as goal

pub returns-in-Err : goal.returns-in-Err
returns-in-Err g c =
    tells_refused (λ (t : List ℕ). t) c.args.table.now c.args.number (expanded (g.E.Env.lookups c.args.env.now) c.args.table.now c.args.number c.args.text.now) c.in-Err.stop c.error.result
    (c.in-Err.ensures c.args.table.now c.args.number) c.error.ensures
