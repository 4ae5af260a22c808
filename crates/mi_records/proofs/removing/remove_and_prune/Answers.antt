-- The rows, and the pruning behind them.
use Rattle.std.proofs.Common.{[], ◌∷◌, ◌++◌, map}
use Rattle.std.specs.Prelude.{Ok, Err}
use Rattle.std.specs.FinMap.{keys}
use Rattle.mi_changes.specs.Touches.{Clear}
use Rattle.mi_model.specs.Prune.{goes, key_seat}
use Rattle.mi_model.specs.RegistryGuards.{kept_keys, prune_keys}
use Rattle.mi_model.specs.RemoveRegistryValues.{remove_row, removal_row, touched_keys, remove_registry_values}
use Rattle.mi_steps.specs.Makes.{plan_machine}
use Rattle.mi_records.specs.Order.{as_numbered}
use Rattle.mi_records.proofs.PhaseLemmas.{phase_of}
use Rattle.mi_records.proofs.RemoveLemmas.{rows_not_then}
use Rattle.mi_records.proofs.RemovingLemmas.{remove_effect, prunes, pruned_behind}
use Rattle.mi_records.proofs.removing.remove_and_prune.Goals as goal

pub returns-in_ok-prune_named-in-Ok-clause-phase : goal.returns-in_ok-prune_named-in-Ok-clause-phase
returns-in_ok-prune_named-in-Ok-clause-phase g c = λ held files w asked one two at.
    let rows = map (λ r. remove_row w (as_numbered r)) c.args.leaving.now ++ map (λ r. removal_row w (as_numbered r)) c.args.local.now in
    let m = plan_machine held files c.remove_all.new.plan in
    phase_of held files c.args.plan.now c.prune_named.new.plan remove_registry_values w (rows ++ prune_keys w (touched_keys w) ∷ []) {A = Unit {0}} (Ok tt) (remove_effect w c.args.leaving.now c.args.local.now one two) at
    (pruned_behind held files c.args.plan.now c.remove_all.new.plan c.prune_named.new.plan rows (prune_keys w (touched_keys w)) (Clear (goes key_seat (keys m) (touched_keys w) (kept_keys w)) ∷ []) (c.in-Ok.ensures.rows held files w asked) (prunes w m) (c.in_ok-prune_named-in-Ok.ensures.makes held files w asked one two))

pub returns-in-Err-clause-phase : goal.returns-in-Err-clause-phase
returns-in-Err-clause-phase g c = λ held files w asked one two at.
    let rows = map (λ r. remove_row w (as_numbered r)) c.args.leaving.now ++ map (λ r. removal_row w (as_numbered r)) c.args.local.now in
    phase_of held files c.args.plan.now c.remove_all.new.plan remove_registry_values w (rows ++ prune_keys w (touched_keys w) ∷ []) {A = Unit {0}} (Err c.in-Err.error) (remove_effect w c.args.leaving.now c.args.local.now one two) at
    (rows_not_then held files c.args.plan.now c.remove_all.new.plan c.remove_all.new.plan rows (prune_keys w (touched_keys w) ∷ []) (Unit {0}) (Unit {0}) c.in-Err.error (c.in-Err.ensures.rows held files w asked))
