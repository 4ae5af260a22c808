-- The rows, and the pruning behind them.
use Rattle.std.proofs.Common.{[], ◌∷◌, ◌++◌, map}
use Rattle.std.specs.Prelude.{Ok, Err}
use Rattle.mi_model.specs.Prune.{prune_folders}
use Rattle.mi_model.specs.Shortcuts.{touched_folders, remove_shortcuts}
use Rattle.mi_records.specs.Order.{as_numbered}
use Rattle.mi_records.proofs.PhaseLemmas.{phase_of}
use Rattle.mi_records.proofs.RemoveLemmas.{rows_not_then}
use Rattle.mi_records.proofs.RemovingLemmas.{pruned_behind}
use Rattle.mi_shortcuts.specs.Entries.{remove_effect}
use Rattle.mi_shortcuts.proofs.ShortcutLemmas.{remove_effects}
use Rattle.mi_shortcuts.proofs.uncreate.remove_and_prune.Goals as goal

pub returns-in_ok-prune_touched-in-Ok-clause-phase : goal.returns-in_ok-prune_touched-in-Ok-clause-phase
returns-in_ok-prune_touched-in-Ok-clause-phase g c = λ held files w asked guards these at.
    let rows = map (λ r. remove_effect w (as_numbered r)) c.args.rows.now in
    let last = prune_folders w (touched_folders w) in
    let made = c.in_ok-prune_touched-in-Ok.ensures.made held files w asked these in
    phase_of held files c.args.plan.now c.prune_touched.new.plan remove_shortcuts w (rows ++ last ∷ []) {A = Unit {0}} (Ok tt) (remove_effects w c.args.rows.now these) at
    (pruned_behind held files c.args.plan.now c.remove_rows.new.plan c.prune_touched.new.plan rows last made.touches (c.in-Ok.ensures.rows held files w asked guards) made.gives made.makes)

pub returns-in-Err-clause-phase : goal.returns-in-Err-clause-phase
returns-in-Err-clause-phase g c = λ held files w asked guards these at.
    let rows = map (λ r. remove_effect w (as_numbered r)) c.args.rows.now in
    let last = prune_folders w (touched_folders w) in
    phase_of held files c.args.plan.now c.remove_rows.new.plan remove_shortcuts w (rows ++ last ∷ []) {A = Unit {0}} (Err c.in-Err.error) (remove_effects w c.args.rows.now these) at
    (rows_not_then held files c.args.plan.now c.remove_rows.new.plan c.remove_rows.new.plan rows (last ∷ []) (Unit {0}) (Unit {0}) c.in-Err.error (c.in-Err.ensures.rows held files w asked guards))
