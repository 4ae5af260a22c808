use Rattle.mi_undo.specs.Stands.{put_over, outside}
use Rattle.mi_undo.specs.Area.{notes_in}
use Rattle.mi_undo.proofs.FaultLemmas.{at_err}
use Rattle.mi_undo.proofs.PutLemmas.{shut_sealed}
use Rattle.mi_undo.proofs.SettleSteps.{stands_read, is_new, spare_now, notes_still, undoes_removed, undoes_put, byte_put, undoes_shut, must_fail, full_handed, full_weaker}
use Rattle.mi_undo.proofs.OverLemmas.{exceeds_some}
use Rattle.mi_undo.proofs.ShortLemmas.{short_at, not_short}
use Rattle.std.proofs.Common.{ℕ, Option, IsSome, refl, subst, ◌∙◌}
use Rattle.mi_undo.proofs.settling.undo_read.Goals as goal

pub returns-in_err-remove_unread-clause-undoes : goal.returns-in_err-remove_unread-clause-undoes
returns-in_err-remove_unread-clause-undoes g c = λ told F sf.
    let s = g.V.Volume.state c.args.vol.now in let t = g.V.Volume.state c.remove_unread.new.vol in let places = c.args.places.now in let n = c.args.entries in
    let read = c.requires.read told in
    let spares = c.remove_unread.ensures.spares told F (notes_in s.held places) (spare_now s places n read F sf) in
    undoes_removed s places n read F sf t spares c.from_residual.result c.from_residual.ensures.0

pub returns-in-Err-clause-undoes : goal.returns-in-Err-clause-undoes
returns-in-Err-clause-undoes g c = λ told F sf.
    let s = g.V.Volume.state c.args.vol.now in let t = g.V.Volume.state c.remove_unread.new.vol in let places = c.args.places.now in let n = c.args.entries in
    let read = c.requires.read told in
    let spares = c.remove_unread.ensures.spares told F (notes_in s.held places) (spare_now s places n read F sf) in
    let puts = c.put_back.ensures.back told F (notes_in s.held places) (notes_still s places n read F sf t spares) spares.spare.keeps (is_new s places n read F sf) in
    undoes_put s places n read F sf t spares (g.V.Volume.state c.put_back.new.vol) c.put_back.result puts c.refused.result (must_fail c.refused.result c.refused.ensures.refuses)

pub mark_synced-requires : goal.mark_synced-requires
mark_synced-requires g c = λ told.
    let s = g.V.Volume.state c.args.vol.now in let t = g.V.Volume.state c.remove_unread.new.vol in let places = c.args.places.now in let n = c.args.entries in
    let read = c.requires.read told in
    let F = outside (put_over (notes_in s.held places) s.held) in
    let sf = stands_read s.held (notes_in s.held places) read.marked read.read in
    let spares = c.remove_unread.ensures.spares told F (notes_in s.held places) (spare_now s places n read F sf) in
    let puts = c.put_back.ensures.back told F (notes_in s.held places) (notes_still s places n read F sf t spares) spares.spare.keeps (is_new s places n read F sf) in
    byte_put s places n read F sf t spares (g.V.Volume.state c.put_back.new.vol) c.put_back.result puts c.args.marker_name.now c.requires.name

pub returns-in_err-mark_synced-clause-undoes : goal.returns-in_err-mark_synced-clause-undoes
returns-in_err-mark_synced-clause-undoes g c = λ told F sf.
    let s = g.V.Volume.state c.args.vol.now in let t = g.V.Volume.state c.remove_unread.new.vol in let places = c.args.places.now in let n = c.args.entries in
    let read = c.requires.read told in
    let u = g.V.Volume.state c.put_back.new.vol in let v = g.V.Volume.state c.mark_synced.new.vol in
    let spares = c.remove_unread.ensures.spares told F (notes_in s.held places) (spare_now s places n read F sf) in
    let puts = c.in_default.ensures.back told F (notes_in s.held places) (notes_still s places n read F sf t spares) spares.spare.keeps (is_new s places n read F sf) in
    undoes_shut s places n read F sf t spares u _ puts puts.clean puts.back v c.args.marker_name.now c.requires.name c.mark_synced.result (c.mark_synced.ensures.seals told)
    c.from_residual-in_err-mark_synced.result (at_err _ c.from_residual-in_err-mark_synced.result c.from_residual-in_err-mark_synced.ensures.0)

pub returns-clause-undoes : goal.returns-clause-undoes
returns-clause-undoes g c = λ told F sf.
    let s = g.V.Volume.state c.args.vol.now in let t = g.V.Volume.state c.remove_unread.new.vol in let places = c.args.places.now in let n = c.args.entries in
    let read = c.requires.read told in
    let u = g.V.Volume.state c.put_back.new.vol in let v = g.V.Volume.state c.mark_synced.new.vol in
    let spares = c.remove_unread.ensures.spares told F (notes_in s.held places) (spare_now s places n read F sf) in
    let puts = c.in_default.ensures.back told F (notes_in s.held places) (notes_still s places n read F sf t spares) spares.spare.keeps (is_new s places n read F sf) in
    undoes_shut s places n read F sf t spares u _ puts puts.clean puts.back v c.args.marker_name.now c.requires.name _ (c.in_ok-mark_synced.ensures.seals told)
    _ (shut_sealed u v F (notes_in s.held places) c.args.marker_name.now puts.keeps puts.clean puts.back c.requires.name _ (c.in_ok-mark_synced.ensures.seals told))

pub returns-in_err-remove_unread-clause-full : goal.returns-in_err-remove_unread-clause-full
returns-in_err-remove_unread-clause-full g c = full_handed (Unit {0}) c.from_residual.result c.in_err-remove_unread.field-0.0 (λ name. ⊥) _ c.from_residual.ensures.1 (λ name never. absurd never) c.in_err-remove_unread.ensures.never_full

pub returns-in-Err-clause-full : goal.returns-in-Err-clause-full
returns-in-Err-clause-full g c = full_weaker c.refused.result _ _ (λ name named.
    let s = g.V.Volume.state c.args.vol.now in let t = g.V.Volume.state c.remove_unread.new.vol in let places = c.args.places.now in let n = c.args.entries in
    let full = c.in-Err.ensures.full named.0 in
    let told = full.0 in
    let read = c.requires.read told in
    let F = outside (put_over (notes_in s.held places) s.held) in
    let sf = stands_read s.held (notes_in s.held places) read.marked read.read in
    let spares = c.in_ok-remove_unread.ensures.spares told F (notes_in s.held places) (spare_now s places n read F sf) in
    let still = notes_still s places n read F sf t spares in
    let new = is_new s places n read F sf in
    let stuck = c.in-Err.ensures.stuck told F (notes_in s.held places) still spares.spare.keeps new named.0 in (
      told,
      subst (λ (k : Option ℕ). IsSome k) spares.goes.capacity (exceeds_some _ _ stuck.1.1.passes),
      short_at s places n read F (notes_in s.held places) refl new t spares (c.in_ok-remove_unread.ensures.away told) stuck.0 c.in-Err.stuck.at name stuck.1.0 stuck.1.1 (c.requires.within told) full.1 named.1,
    )) c.refused.ensures.full

pub returns-in-Err-clause-short : goal.returns-in-Err-clause-short
returns-in-Err-clause-short g c = λ told name short. must_fail c.refused.result c.refused.ensures.refuses

pub returns-clause-short : goal.returns-clause-short
returns-clause-short g c = λ told name short.
    let s = g.V.Volume.state c.args.vol.now in let t = g.V.Volume.state c.remove_unread.new.vol in let places = c.args.places.now in let n = c.args.entries in
    let u = g.V.Volume.state c.put_back.new.vol in
    let read = c.requires.read told in
    let F = outside (put_over (notes_in s.held places) s.held) in
    let sf = stands_read s.held (notes_in s.held places) read.marked read.read in
    let spares = c.in_ok-remove_unread.ensures.spares told F (notes_in s.held places) (spare_now s places n read F sf) in
    let new = is_new s places n read F sf in
    let puts = c.in_default.ensures.back told F (notes_in s.held places) (notes_still s places n read F sf t spares) spares.spare.keeps new in
    absurd (not_short s places n read F (notes_in s.held places) refl new t spares (c.in_ok-remove_unread.ensures.away told) u name (puts.goes.capacity ∙ spares.goes.capacity) puts.inside puts.back (c.in_default.ensures.fits told) short)
