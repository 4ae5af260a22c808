-- The rows, and the pruning behind them.
use Rattle.std.proofs.Common.{[], ◌∷◌, ◌++◌, map}
use Rattle.std.specs.Prelude.{Ok, Err}
use Rattle.mi_model.specs.Prune.{prune_folders}
use Rattle.mi_model.specs.DuplicateFiles.{removed_copy, touched_folders, remove_duplicate_files}
use Rattle.mi_records.specs.Order.{as_numbered}
use Rattle.mi_records.proofs.PhaseLemmas.{phase_of}
use Rattle.mi_records.proofs.RemoveLemmas.{rows_not_then}
use Rattle.mi_records.proofs.RemovingLemmas.{pruned_behind}
use Rattle.mi_files.proofs.RemovalLemmas.{copies_effect, copies_touched}
use Rattle.mi_files.proofs.uncopy.remove_and_prune.Goals as goal

pub returns-in_ok-prune_folders-in-Ok-clause-phase : goal.returns-in_ok-prune_folders-in-Ok-clause-phase
returns-in_ok-prune_folders-in-Ok-clause-phase g c = λ held files w asked one at.
    let rows = map (λ r. removed_copy w (as_numbered r)) c.args.leaving.now in
    let last = prune_folders w (touched_folders w) in
    let touched = copies_touched w c.args.leaving.now c.new-touched.result.items c.remove_all.new.touched.items one c.new-touched.ensures.items (c.in-Ok.ensures.touched w asked) in
    let made = c.in_ok-prune_folders-in-Ok.ensures.made held files w (touched_folders w) asked touched in
    phase_of held files c.args.plan.now c.prune_folders.new.plan remove_duplicate_files w (rows ++ last ∷ []) {A = Unit {0}} (Ok tt) (copies_effect w c.args.leaving.now one) at
    (pruned_behind held files c.args.plan.now c.remove_all.new.plan c.prune_folders.new.plan rows last made.touches (c.in-Ok.ensures.rows held files w asked) made.gives made.makes)

pub returns-in-Err-clause-phase : goal.returns-in-Err-clause-phase
returns-in-Err-clause-phase g c = λ held files w asked one at.
    let rows = map (λ r. removed_copy w (as_numbered r)) c.args.leaving.now in
    let last = prune_folders w (touched_folders w) in
    phase_of held files c.args.plan.now c.remove_all.new.plan remove_duplicate_files w (rows ++ last ∷ []) {A = Unit {0}} (Err c.in-Err.error) (copies_effect w c.args.leaving.now one) at
    (rows_not_then held files c.args.plan.now c.remove_all.new.plan c.remove_all.new.plan rows (last ∷ []) (Unit {0}) (Unit {0}) c.in-Err.error (c.in-Err.ensures.rows held files w asked))
