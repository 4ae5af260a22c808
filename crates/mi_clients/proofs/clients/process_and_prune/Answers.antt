-- The rows, and the pruning behind them.
use Rattle.std.proofs.Common.{[], ◌∷◌, ◌++◌, map}
use Rattle.std.specs.Prelude.{Ok, Err}
use Rattle.std.specs.FinMap.{keys}
use Rattle.mi_changes.specs.Touches.{Clear}
use Rattle.mi_model.specs.ProcessComponents.{touched_counts, process_components}
use Rattle.mi_model.specs.Prune.{goes, key_seat}
use Rattle.mi_model.specs.RegistryGuards.{kept_keys, prune_keys}
use Rattle.mi_steps.specs.Makes.{plan_machine}
use Rattle.mi_records.specs.Clients.{component_effect}
use Rattle.mi_records.specs.Order.{as_numbered}
use Rattle.mi_records.proofs.KeyLemmas.{keeps_on}
use Rattle.mi_records.proofs.PhaseLemmas.{phase_of}
use Rattle.mi_records.proofs.ClientLemmas.{process_effect}
use Rattle.mi_clients.proofs.CountLemmas.{prunes_counts}
use Rattle.mi_records.proofs.RemoveLemmas.{rows_not_then}
use Rattle.mi_records.proofs.RemovingLemmas.{pruned_behind}
use Rattle.mi_clients.proofs.clients.process_and_prune.Goals as goal

pub returns-in_ok-prune_counts-in-Ok-clause-phase : goal.returns-in_ok-prune_counts-in-Ok-clause-phase
returns-in_ok-prune_counts-in-Ok-clause-phase g c = λ held files w asked at.
    let rows = map (λ r. component_effect w (as_numbered r)) c.args.rows.now in
    let takes = c.takes_counts-takes.ensures w asked in
    let m = plan_machine held files c.process_all.new.plan in
    phase_of held files c.args.plan.now c.prune_counts.new.plan process_components w (rows ++ prune_keys w (touched_counts w) ∷ []) {A = Unit {0}} (Ok tt) (process_effect (g.S.Sees.rows c.args.seen.now) w c.args.rows.now asked.rows c.requires.order) at
    (pruned_behind held files c.args.plan.now c.process_all.new.plan c.prune_counts.new.plan rows (prune_keys w (touched_counts w)) (Clear (goes key_seat (keys m) (touched_counts w) (kept_keys w)) ∷ []) (c.in-Ok.ensures.rows held files w asked takes) (prunes_counts w m) (c.in_ok-prune_counts-in-Ok.ensures.makes held files w asked takes))

pub returns-in_ok-prune_counts-in-Ok-clause-keeps : goal.returns-in_ok-prune_counts-in-Ok-clause-keeps
returns-in_ok-prune_counts-in-Ok-clause-keeps g c = keeps_on c.args.plan.now c.process_all.new.plan c.prune_counts.new.plan c.in-Ok.ensures.keeps c.in_ok-prune_counts-in-Ok.ensures.keeps

pub returns-in-Err-clause-phase : goal.returns-in-Err-clause-phase
returns-in-Err-clause-phase g c = λ held files w asked at.
    let rows = map (λ r. component_effect w (as_numbered r)) c.args.rows.now in
    phase_of held files c.args.plan.now c.process_all.new.plan process_components w (rows ++ prune_keys w (touched_counts w) ∷ []) {A = Unit {0}} (Err c.in-Err.error) (process_effect (g.S.Sees.rows c.args.seen.now) w c.args.rows.now asked.rows c.requires.order) at
    (rows_not_then held files c.args.plan.now c.process_all.new.plan c.process_all.new.plan rows (prune_keys w (touched_counts w) ∷ []) (Unit {0}) (Unit {0}) c.in-Err.error (c.in-Err.ensures.rows held files w asked (c.takes_counts-takes.ensures w asked)))
