use Rattle.std.proofs.Common.{ℕ, List, Err, sym, ap, subst, ◌∙◌}
use Rattle.mi_undo.specs.Clear.{AreInside, AreAll}
use Rattle.mi_volume.proofs.Moments.{passes, then_passes}
use Rattle.mi_undo.proofs.FaultLemmas.{on_err}
use Rattle.mi_undo.proofs.SettleBits.{no_error}
use Rattle.mi_undo.proofs.CommitLemmas.{commit_before, commit_failed, commit_done, shut_now, inside_now, all_now, standing_stays, works_byte}
use Rattle.mi_undo.proofs.AreaRoom.{before_room, failed_room, done_room}
use Rattle.mi_undo.proofs.close.commit_area.Goals as goal

pub close_marker-requires : goal.close_marker-requires
close_marker-requires g c = λ told. let kept = c.requires told in works_byte (g.V.Volume.state c.args.vol.now) (g.V.Volume.state c.sync.new.self) c.args.kept.now kept.0 kept.1 (c.sync.ensures.syncs told).stays

pub returns-then-is_err-clause-commits : goal.returns-then-is_err-clause-commits
returns-then-is_err-clause-commits g c = λ told F w. commit_before (g.V.Volume.state c.args.vol.now) (g.V.Volume.state c.sync.new.self) c.args.kept.now F w c.sync.ensures.moments (c.sync.ensures.syncs told).stays

pub returns-in-Err-clause-commits : goal.returns-in-Err-clause-commits
returns-in-Err-clause-commits g c = λ told F w.
    let s = g.V.Volume.state c.args.vol.now in let t = g.V.Volume.state c.sync.new.self in
    let syncs = c.sync.ensures.syncs told in
    let clean = no_error _ c.sync.result (sym c.if-is_err.ensures.value) syncs.ok in
    commit_failed s t c.args.kept.now F w c.sync.ensures.moments syncs.stays (g.V.Volume.state c.close_marker.new.vol) _ c.close_marker.result
    (c.close_marker.ensures.closes told w.marker F w.parts (standing_stays s t F w.parts w.is_open.standing syncs.stays) clean) c.in-Err.fault c.in-Err.is (λ e. c.close_marker.ensures.not_before (c.in-Err.is ∙ ap Err e))

pub returns-in-Ok-clause-commits : goal.returns-in-Ok-clause-commits
returns-in-Ok-clause-commits g c = λ told F w.
    let s = g.V.Volume.state c.args.vol.now in let t = g.V.Volume.state c.sync.new.self in let u = g.V.Volume.state c.close_marker.new.vol in let v = g.V.Volume.state c.clear_area.new.vol in
    let syncs = c.sync.ensures.syncs told in
    let clean = no_error _ c.sync.result (sym c.if-is_err.ensures.value) syncs.ok in
    let closes = c.close_marker.ensures.closes told w.marker F w.parts (standing_stays s t F w.parts w.is_open.standing syncs.stays) clean in
    let closed = (c.in-Ok.ensures.closes told w.marker F w.parts (standing_stays s t F w.parts w.is_open.standing syncs.stays) clean).ok in
    let shut = shut_now s t c.args.kept.now F w c.sync.ensures.moments syncs.stays u _ c.close_marker.result closes closed in
    let inside = inside_now s t c.args.kept.now F w c.sync.ensures.moments syncs.stays u _ c.close_marker.result closes closed in
    let all = all_now s t c.args.kept.now F w c.sync.ensures.moments syncs.stays u _ c.close_marker.result closes closed in
    commit_done s t c.args.kept.now F w c.sync.ensures.moments syncs.stays u _ c.close_marker.result closes closed v c.clear_area.result
    (c.clear_area.ensures.clears told _ w.marker (subst AreInside (sym c.deref.ensures.value) inside) shut (subst (λ (l : List (List ℕ)). AreAll u.held l) (sym c.deref.ensures.value) all))
    (then_passes _ _ _ (passes _ _ _ c.sync.ensures.moments) c.close_marker.ensures.passes) (λ fails. on_err _ c.clear_area.result fails c.clear_area.ensures.fault)

pub returns-then-is_err-clause-room : goal.returns-then-is_err-clause-room
returns-then-is_err-clause-room g c = λ told F n w takes. before_room (g.V.Volume.state c.args.vol.now) (g.V.Volume.state c.sync.new.self) c.args.kept.now F n w takes c.sync.ensures.moments (c.sync.ensures.syncs told).stays

pub returns-in-Err-clause-room : goal.returns-in-Err-clause-room
returns-in-Err-clause-room g c = λ told F n w takes.
    let s = g.V.Volume.state c.args.vol.now in let t = g.V.Volume.state c.sync.new.self in
    let syncs = c.sync.ensures.syncs told in
    let clean = no_error _ c.sync.result (sym c.if-is_err.ensures.value) syncs.ok in
    failed_room s t c.args.kept.now F n w takes c.sync.ensures.moments syncs.stays clean (g.V.Volume.state c.close_marker.new.vol) _ c.close_marker.result
    (c.close_marker.ensures.closes told w.marker F w.parts (standing_stays s t F w.parts w.is_open.standing syncs.stays) clean) c.in-Err.fault c.in-Err.is (λ e. c.close_marker.ensures.not_before (c.in-Err.is ∙ ap Err e))

pub returns-in-Ok-clause-room : goal.returns-in-Ok-clause-room
returns-in-Ok-clause-room g c = λ told F n w takes.
    let s = g.V.Volume.state c.args.vol.now in let t = g.V.Volume.state c.sync.new.self in let u = g.V.Volume.state c.close_marker.new.vol in let v = g.V.Volume.state c.clear_area.new.vol in
    let syncs = c.sync.ensures.syncs told in
    let clean = no_error _ c.sync.result (sym c.if-is_err.ensures.value) syncs.ok in
    let closes = c.close_marker.ensures.closes told w.marker F w.parts (standing_stays s t F w.parts w.is_open.standing syncs.stays) clean in
    let closed = (c.in-Ok.ensures.closes told w.marker F w.parts (standing_stays s t F w.parts w.is_open.standing syncs.stays) clean).ok in
    let shut = shut_now s t c.args.kept.now F w c.sync.ensures.moments syncs.stays u _ c.close_marker.result closes closed in
    let inside = inside_now s t c.args.kept.now F w c.sync.ensures.moments syncs.stays u _ c.close_marker.result closes closed in
    let all = all_now s t c.args.kept.now F w c.sync.ensures.moments syncs.stays u _ c.close_marker.result closes closed in
    done_room s t c.args.kept.now F n w takes c.sync.ensures.moments syncs.stays clean u _ c.close_marker.result closes v _
    (c.clear_area.ensures.clears told _ w.marker (subst AreInside (sym c.deref.ensures.value) inside) shut (subst (λ (l : List (List ℕ)). AreAll u.held l) (sym c.deref.ensures.value) all)).goes
