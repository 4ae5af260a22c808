-- The rows of the one table, and those of the other behind them.
use Rattle.std.proofs.Common.{ℕ, Bor, map, ap, ◌∙◌}
use Rattle.std.proofs.lemmas.Result.{IfOk-weaker}
use Rattle.mi_schema.specs.declared.typed_rows.RemoveFileRow.{RemoveFileRow}
use Rattle.mi_model.specs.RemoveFiles.{removed_file, removed_by_pattern}
use Rattle.mi_records.specs.Order.{as_numbered}
use Rattle.mi_records.proofs.KeyLemmas.{keeps_on}
use Rattle.mi_records.proofs.RemoveLemmas.{rows_then, rows_not_then}
use Rattle.mi_files.specs.Taking.{folder_touched, touched_more}
use Rattle.mi_files.proofs.remove.remove_all.Goals as goal

pub returns-in-Ok-clause-rows : goal.returns-in-Ok-clause-rows
returns-in-Ok-clause-rows g c = λ held files w asked.
    rows_then held files c.args.plan.now c.remove_files.new.plan c.remove_by_patterns.new.plan (map (λ r. removed_file w (as_numbered r)) c.args.leaving.now) (map (λ r. removed_by_pattern w (as_numbered r)) c.args.in_force.now) c.remove_by_patterns.result
    (c.in-Ok.ensures.rows held files w asked (c.in_ok-guards.ensures w asked)) (c.remove_by_patterns.ensures.rows held files w asked (c.in_ok-guards.ensures w asked))

pub returns-in-Ok-clause-touched : goal.returns-in-Ok-clause-touched
returns-in-Ok-clause-touched g c = λ w asked.
    IfOk-weaker c.remove_by_patterns.result _ _ (λ done is. is ∙ ap (touched_more (λ (r : ℕ × Bor RemoveFileRow). folder_touched w r.1.now) c.args.in_force.now) (c.in-Ok.ensures.touched w asked)) (c.remove_by_patterns.ensures.touched w asked)

pub returns-in-Ok-clause-keeps : goal.returns-in-Ok-clause-keeps
returns-in-Ok-clause-keeps g c = keeps_on c.args.plan.now c.remove_files.new.plan c.remove_by_patterns.new.plan c.in-Ok.ensures.keeps c.remove_by_patterns.ensures.keeps

pub returns-clause-rows : goal.returns-clause-rows
returns-clause-rows g c = λ held files w asked.
    rows_not_then held files c.args.plan.now c.remove_files.new.plan c.remove_files.new.plan (map (λ r. removed_file w (as_numbered r)) c.args.leaving.now) (map (λ r. removed_by_pattern w (as_numbered r)) c.args.in_force.now) (Unit {0}) (Unit {0}) c.in-Err.error
    (c.in-Err.ensures.rows held files w asked (c.in_ok-guards.ensures w asked))
