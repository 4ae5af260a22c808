-- The rows, and the pruning behind them.
use Rattle.std.proofs.Common.{[], ◌∷◌, ◌++◌, map}
use Rattle.std.specs.Prelude.{Ok, Err}
use Rattle.mi_model.specs.Prune.{prune_folders}
use Rattle.mi_model.specs.RemoveFiles.{removed_file, removed_by_pattern, touched_folders, remove_files}
use Rattle.mi_records.specs.Order.{as_numbered}
use Rattle.mi_records.proofs.PhaseLemmas.{phase_of}
use Rattle.mi_records.proofs.RemoveLemmas.{rows_not_then}
use Rattle.mi_records.proofs.RemovingLemmas.{pruned_behind}
use Rattle.mi_files.proofs.RemovalLemmas.{remove_effect, touched_are}
use Rattle.mi_files.proofs.remove.remove_and_prune.Goals as goal

pub returns-in_ok-prune_folders-in-Ok-clause-phase : goal.returns-in_ok-prune_folders-in-Ok-clause-phase
returns-in_ok-prune_folders-in-Ok-clause-phase g c = λ held files w asked one two at.
    let rows = map (λ r. removed_file w (as_numbered r)) c.args.leaving.now ++ map (λ r. removed_by_pattern w (as_numbered r)) c.args.in_force.now in
    let last = prune_folders w (touched_folders w) in
    let touched = touched_are w c.args.leaving.now c.args.in_force.now c.new-touched.result.items c.remove_all.new.touched.items one two c.new-touched.ensures.items (c.in-Ok.ensures.touched w asked) in
    let made = c.in_ok-prune_folders-in-Ok.ensures.made held files w (touched_folders w) asked touched in
    phase_of held files c.args.plan.now c.prune_folders.new.plan remove_files w (rows ++ last ∷ []) {A = Unit {0}} (Ok tt) (remove_effect w c.args.leaving.now c.args.in_force.now one two) at
    (pruned_behind held files c.args.plan.now c.remove_all.new.plan c.prune_folders.new.plan rows last made.touches (c.in-Ok.ensures.rows held files w asked) made.gives made.makes)

pub returns-in-Err-clause-phase : goal.returns-in-Err-clause-phase
returns-in-Err-clause-phase g c = λ held files w asked one two at.
    let rows = map (λ r. removed_file w (as_numbered r)) c.args.leaving.now ++ map (λ r. removed_by_pattern w (as_numbered r)) c.args.in_force.now in
    let last = prune_folders w (touched_folders w) in
    phase_of held files c.args.plan.now c.remove_all.new.plan remove_files w (rows ++ last ∷ []) {A = Unit {0}} (Err c.in-Err.error) (remove_effect w c.args.leaving.now c.args.in_force.now one two) at
    (rows_not_then held files c.args.plan.now c.remove_all.new.plan c.remove_all.new.plan rows (last ∷ []) (Unit {0}) (Unit {0}) c.in-Err.error (c.in-Err.ensures.rows held files w asked))
