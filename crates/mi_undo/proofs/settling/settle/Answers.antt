use Rattle.std.proofs.Common.{ℕ, Option, IsSome, refl, subst}
use Rattle.mi_undo.proofs.ShortLemmas.{short_same}
use Rattle.mi_undo.proofs.FaultLemmas.{memory_no_fault}
use Rattle.mi_volume.proofs.Moments.{started, passes}
use Rattle.mi_volume.specs.State.{Images}
use Rattle.mi_undo.specs.declared.fault.UndoError.TheVariants.{NoMemory, Fault}
use Rattle.mi_undo.proofs.SettleSteps.{bad_handed, full_handed, full_weaker}
use Rattle.mi_undo.proofs.SettlingLemmas.{settling_looked, settling_synced}
use Rattle.mi_undo.proofs.settling.settle.Goals as goal

pub returns-in_err-marker_name-clause-settles : goal.returns-in_err-marker_name-clause-settles
returns-in_err-marker_name-clause-settles g c = λ told.
    let s = g.V.Volume.state c.args.vol.now in
    let r = c.from_residual in
    settling_looked s s r.result (record { goes = started s (Images s); stays = record { held = refl; dirty = λ q now. now } }) (passes s s (Images s) (started s (Images s))) r.ensures.0
    (bad_handed (Unit {0}) r.result NoMemory (λ name. ⊥) (λ name. ⊥) r.ensures.1 (λ name never. never) tt)
    (full_handed (Unit {0}) r.result NoMemory (λ name. ⊥) (λ name. ⊥) r.ensures.1 (λ name never. never) tt)
    (λ fault. absurd (memory_no_fault r.result r.ensures.1 fault))

pub returns-in_err-sync-clause-settles : goal.returns-in_err-sync-clause-settles
returns-in_err-sync-clause-settles g c = λ told.
    let s = g.V.Volume.state c.args.vol.now in let t = g.V.Volume.state c.sync.new.self in
    let r = c.from_residual-in_err-sync in
    settling_looked s t r.result (record { goes = c.sync.ensures.moments; stays = (c.sync.ensures.syncs told).stays }) (passes s t (Images s) c.sync.ensures.moments) r.ensures.0
    (bad_handed (Unit {0}) r.result Fault (λ name. ⊥) (λ name. ⊥) r.ensures.1 (λ name never. never) tt)
    (full_handed (Unit {0}) r.result Fault (λ name. ⊥) (λ name. ⊥) r.ensures.1 (λ name never. never) tt)
    (λ fault. c.in_err-sync.ensures.failed)

pub returns-clause-settles : goal.returns-clause-settles
returns-clause-settles g c = λ told.
    let s = g.V.Volume.state c.args.vol.now in let t = g.V.Volume.state c.sync.new.self in let u = g.V.Volume.state c.settle_synced.new.vol in
    settling_synced s t u c.settle_synced.result (record { goes = c.sync.ensures.moments; stays = (c.sync.ensures.syncs told).stays }) (passes s t (Images s) c.sync.ensures.moments)
    (c.settle_synced.ensures.settled told) (c.settle_synced.ensures.known told) (c.settle_synced.ensures.settles told) (c.settle_synced.ensures.unread told) (c.settle_synced.ensures.bad told) c.settle_synced.ensures.passes c.settle_synced.ensures.fault
    (full_weaker c.settle_synced.result _ _ (λ name h. (h.1, h.2)) c.settle_synced.ensures.full) (c.settle_synced.ensures.short told)

pub settle_synced-requires-clause-within : goal.settle_synced-requires-clause-within
settle_synced-requires-clause-within g c = λ told. (c.in_ok-sync.ensures.syncs told).fits

pub returns-in_err-marker_name-clause-leaves : goal.returns-in_err-marker_name-clause-leaves
returns-in_err-marker_name-clause-leaves g c = λ told. (returns-in_err-marker_name-clause-settles g c told).leaves

pub returns-in_err-marker_name-clause-others : goal.returns-in_err-marker_name-clause-others
returns-in_err-marker_name-clause-others g c = λ told. (returns-in_err-marker_name-clause-settles g c told).others

pub returns-in_err-marker_name-clause-unread_leaves : goal.returns-in_err-marker_name-clause-unread_leaves
returns-in_err-marker_name-clause-unread_leaves g c = λ told. (returns-in_err-marker_name-clause-settles g c told).unread_leaves

pub returns-in_err-sync-clause-leaves : goal.returns-in_err-sync-clause-leaves
returns-in_err-sync-clause-leaves g c = λ told. (returns-in_err-sync-clause-settles g c told).leaves

pub returns-in_err-sync-clause-others : goal.returns-in_err-sync-clause-others
returns-in_err-sync-clause-others g c = λ told. (returns-in_err-sync-clause-settles g c told).others

pub returns-in_err-sync-clause-unread_leaves : goal.returns-in_err-sync-clause-unread_leaves
returns-in_err-sync-clause-unread_leaves g c = λ told. (returns-in_err-sync-clause-settles g c told).unread_leaves

pub returns-in_err-sync-clause-room : goal.returns-in_err-sync-clause-room
returns-in_err-sync-clause-room g c = λ told. (returns-in_err-sync-clause-settles g c told).room

pub returns-clause-free : goal.returns-clause-free
returns-clause-free g c = λ told. (returns-clause-settles g c told).free

pub returns-clause-value : goal.returns-clause-value
returns-clause-value g c = λ told. (returns-clause-settles g c told).value

pub returns-clause-stops : goal.returns-clause-stops
returns-clause-stops g c = λ told. (returns-clause-settles g c told).stops

pub returns-clause-leaves : goal.returns-clause-leaves
returns-clause-leaves g c = λ told. (returns-clause-settles g c told).leaves

pub returns-clause-again : goal.returns-clause-again
returns-clause-again g c = λ told. (returns-clause-settles g c told).again

pub returns-clause-others : goal.returns-clause-others
returns-clause-others g c = λ told. (returns-clause-settles g c told).others

pub returns-clause-unread_leaves : goal.returns-clause-unread_leaves
returns-clause-unread_leaves g c = λ told. (returns-clause-settles g c told).unread_leaves

pub returns-clause-short : goal.returns-clause-short
returns-clause-short g c = λ told. (returns-clause-settles g c told).short

pub returns-clause-room : goal.returns-clause-room
returns-clause-room g c = λ told. (returns-clause-settles g c told).room

pub returns-clause-full : goal.returns-clause-full
returns-clause-full g c = full_weaker c.settle_synced.result _ _ (λ name h. let s = g.V.Volume.state c.args.vol.now in (h.0, subst (λ (k : Option ℕ). IsSome k) c.sync.ensures.moments.capacity h.1, short_same s.capacity _ s.held _ name c.sync.ensures.moments.capacity (c.sync.ensures.syncs h.0).stays.held h.2)) c.settle_synced.ensures.full
