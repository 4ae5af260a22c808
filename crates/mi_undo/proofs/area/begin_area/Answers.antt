use Rattle.std.proofs.Common.{◌≢◌, refl, inl, inr, ⊎_elim, ap, Err, Ok}
use Rattle.mi_volume.specs.State.{Stays}
use Rattle.mi_undo.specs.declared.fault.OpFault.{OpFault}
use Rattle.mi_undo.specs.declared.fault.OpFault.TheVariants as op
use Rattle.mi_undo.proofs.FaultLemmas.{at_err, all_err, handed_on, err_handed, unless_fault}
use Rattle.mi_undo.proofs.BeginLemmas.{not_begun, is_begun, free_unless, begin_sum, begin_fits}
use Rattle.mi_undo.proofs.area.begin_area.Goals as goal

pub returns-in_err-name-clause-begins : goal.returns-in_err-name-clause-begins
returns-in_err-name-clause-begins g c = λ told. not_begun (g.V.Volume.state c.args.vol.now) c.from_residual.result (c.requires told) c.from_residual.ensures.0

pub returns-in_err-name-clause-free : goal.returns-in_err-name-clause-free
returns-in_err-name-clause-free g c = λ told. all_err _ c.from_residual.result (inl (c.requires told))

pub returns-in_err-name-clause-stays : goal.returns-in_err-name-clause-stays
returns-in_err-name-clause-stays g c = λ told.
    let s = g.V.Volume.state c.args.vol.now in
    err_handed c.from_residual.result op.NoMemory (λ (x : OpFault). x ≢ op.Fault → Stays s s) c.from_residual.ensures.1 (λ other. record { held = refl; dirty = λ q now. now })

pub returns-in_err-put_synced-clause-begins : goal.returns-in_err-put_synced-clause-begins
returns-in_err-put_synced-clause-begins g c = λ told.
    is_begun (g.V.Volume.state c.args.vol.now) (g.V.Volume.state c.put_synced.new.vol) c.in_ok-name.name c.from_residual-in_err-put_synced.result c.put_synced.result (c.requires told) c.in_ok-name.ensures (c.put_synced.ensures.seals told) (λ _. at_err _ c.from_residual-in_err-put_synced.result c.from_residual-in_err-put_synced.ensures.0)

pub returns-in_err-put_synced-clause-free : goal.returns-in_err-put_synced-clause-free
returns-in_err-put_synced-clause-free g c = λ told.
    all_err _ c.from_residual-in_err-put_synced.result
    (free_unless (g.V.Volume.state c.args.vol.now) (g.V.Volume.state c.put_synced.new.vol) c.in_err-put_synced.field-0.0 (c.requires told) (λ is. c.in_err-put_synced.ensures.fault (ap Err is))
    (λ is. c.in_err-put_synced.ensures.stays told (⊎_elim (λ e. inl (ap Err e)) (λ e. inr (ap Err e)) is)))

pub returns-in_err-put_synced-clause-full : goal.returns-in_err-put_synced-clause-full
returns-in_err-put_synced-clause-full g c = λ full.
    let r = c.from_residual-in_err-put_synced in
    let over = c.in_err-put_synced.ensures.full (handed_on r.result _ _ r.ensures.1 full) in
    (over.0, begin_sum (g.V.Volume.state c.args.vol.now) _ c.in_ok-name.ensures (c.requires over.0) over.1)

pub returns-in_err-put_synced-clause-stays : goal.returns-in_err-put_synced-clause-stays
returns-in_err-put_synced-clause-stays g c = λ told.
    let r = c.from_residual-in_err-put_synced in
    let e = c.in_err-put_synced.field-0.0 in
    err_handed r.result e (λ (x : OpFault). x ≢ op.Fault → Stays (g.V.Volume.state c.args.vol.now) (g.V.Volume.state c.put_synced.new.vol)) r.ensures.1 (λ other. unless_fault _ e (c.in_err-put_synced.ensures.stays told) other)

pub returns-clause-fits : goal.returns-clause-fits
returns-clause-fits g c = λ told. begin_fits (g.V.Volume.state c.args.vol.now) _ c.in_ok-name.ensures (c.requires told) (c.in_ok-put_synced.ensures.fits told)

pub returns-clause-begins : goal.returns-clause-begins
returns-clause-begins g c = λ told.
    is_begun (g.V.Volume.state c.args.vol.now) (g.V.Volume.state c.put_synced.new.vol) c.in_ok-name.name (Ok c.in_ok-name.name) (Ok tt) (c.requires told) c.in_ok-name.ensures (c.in_ok-put_synced.ensures.seals told) (λ ok. ok)
