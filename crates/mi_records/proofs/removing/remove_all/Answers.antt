-- The rows of the one table, and those of the other behind them.
use Rattle.std.proofs.Common.{map}
use Rattle.mi_model.specs.RemoveRegistryValues.{remove_row, removal_row}
use Rattle.mi_records.specs.Order.{as_numbered}
use Rattle.mi_records.proofs.KeyLemmas.{keeps_on}
use Rattle.mi_records.proofs.RemoveLemmas.{rows_then, rows_not_then}
use Rattle.mi_records.proofs.removing.remove_all.Goals as goal

pub returns-in-Ok-clause-rows : goal.returns-in-Ok-clause-rows
returns-in-Ok-clause-rows g c = λ held files w asked.
    rows_then held files c.args.plan.now c.remove_leaving.new.plan c.removal_rows.new.plan (map (λ r. remove_row w (as_numbered r)) c.args.leaving.now) (map (λ r. removal_row w (as_numbered r)) c.args.local.now) c.removal_rows.result
    (c.in-Ok.ensures.rows held files w asked) (c.removal_rows.ensures.rows held files w asked.lookups)

pub returns-in-Ok-clause-keeps : goal.returns-in-Ok-clause-keeps
returns-in-Ok-clause-keeps g c = keeps_on c.args.plan.now c.remove_leaving.new.plan c.removal_rows.new.plan c.in-Ok.ensures.keeps c.removal_rows.ensures.keeps

pub returns-in-Err-clause-rows : goal.returns-in-Err-clause-rows
returns-in-Err-clause-rows g c = λ held files w asked.
    rows_not_then held files c.args.plan.now c.remove_leaving.new.plan c.remove_leaving.new.plan (map (λ r. remove_row w (as_numbered r)) c.args.leaving.now) (map (λ r. removal_row w (as_numbered r)) c.args.local.now) (Unit {0}) (Unit {0}) c.in-Err.error
    (c.in-Err.ensures.rows held files w asked)
