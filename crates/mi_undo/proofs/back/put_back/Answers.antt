use Rattle.std.proofs.Common.{◌≡◌, ℕ, List, Option, sym, subst, ◌∙◌, refl}
use Rattle.mi_volume.specs.Maps.{Map}
use Rattle.mi_undo.specs.Notes.{Note}
use Rattle.mi_undo.specs.Keeps.{Keeps}
use Rattle.mi_undo.specs.Back.{Removed, IsStuck, IsWithout}
use Rattle.mi_undo.specs.declared.back.Stuck.{Stuck}
use Rattle.mi_undo.specs.declared.fault.OpFault.TheVariants as op
use Rattle.mi_undo.proofs.FaultLemmas.{err_handed}
use Rattle.mi_undo.proofs.OverLemmas.{without}
use Rattle.mi_undo.proofs.SettleBits.{no_error}
use Rattle.mi_undo.proofs.BackLemmas.{notes_in_inside}
use Rattle.mi_undo.proofs.PutLemmas.{unput, half_put, unsynced_put, all_put}
use Rattle.mi_undo.proofs.back.put_back.Goals as goal

pub returns-then-is_err-clause-back : goal.returns-then-is_err-clause-back
returns-then-is_err-clause-back g c = λ told F ns is keeps new.
    let s = g.V.Volume.state c.args.vol.now in let t = g.V.Volume.state c.remove_all.new.vol in
    let removed = subst (λ (l : List Note). Removed s t F l c.remove_all.result) is (c.remove_all.ensures.removed told F (subst (λ (l : List Note). Keeps s F l) (sym is) keeps)) in
    unput s t F ns c.remove_all.result _ removed refl

pub returns-in_err-return_all-clause-back : goal.returns-in_err-return_all-clause-back
returns-in_err-return_all-clause-back g c = λ told F ns is keeps new.
    let s = g.V.Volume.state c.args.vol.now in let t = g.V.Volume.state c.remove_all.new.vol in let u = g.V.Volume.state c.return_all.new.vol in
    let removed = subst (λ (l : List Note). Removed s t F l c.remove_all.result) is (c.remove_all.ensures.removed told F (subst (λ (l : List Note). Keeps s F l) (sym is) keeps)) in
    let away = no_error _ c.remove_all.result (sym c.if-is_err.ensures.value) removed.ok in
    let returned = c.return_all.ensures.returned told F ns (notes_in_inside s.held t.held c.args.places.now removed.inside ∙ is) removed.keeps new away in
    half_put s t u F ns c.return_all.result removed.goes removed.inside removed.touches returned c.from_residual.result c.from_residual.ensures.0

pub returns-in_err-return_all-clause-stuck : goal.returns-in_err-return_all-clause-stuck
returns-in_err-return_all-clause-stuck g c = λ told F ns is keeps new.
    let s = g.V.Volume.state c.args.vol.now in let t = g.V.Volume.state c.remove_all.new.vol in
    let removed = subst (λ (l : List Note). Removed s t F l c.remove_all.result) is (c.remove_all.ensures.removed told F (subst (λ (l : List Note). Keeps s F l) (sym is) keeps)) in
    let away = no_error _ c.remove_all.result (sym c.if-is_err.ensures.value) removed.ok in
    let e = c.in_err-return_all.field-0.0 in
    err_handed c.from_residual.result e (λ (x : Stuck). x.fault ≡ op.Full → (base : Map) × (IsWithout ns s.held base × IsStuck s.capacity base ns x.at)) c.from_residual.ensures.1
    (λ full. (
      t.held,
      (
        without s t F ns keeps removed.keeps removed.inside away,
        subst (λ (k : Option ℕ). IsStuck k t.held ns e.at) removed.goes.capacity (c.in_err-return_all.ensures.stuck told F ns (notes_in_inside s.held t.held c.args.places.now removed.inside ∙ is) removed.keeps new away full),
      ),
    ))

pub returns-clause-fits : goal.returns-clause-fits
returns-clause-fits g c = λ told. no_error _ c.sync.result (sym c.if-is_err-2.ensures.value) (c.sync.ensures.syncs told).fits

pub returns-then-is_err-2-clause-back : goal.returns-then-is_err-2-clause-back
returns-then-is_err-2-clause-back g c = λ told F ns is keeps new.
    let s = g.V.Volume.state c.args.vol.now in let t = g.V.Volume.state c.remove_all.new.vol in let u = g.V.Volume.state c.return_all.new.vol in let v = g.V.Volume.state c.sync.new.self in
    let removed = subst (λ (l : List Note). Removed s t F l c.remove_all.result) is (c.remove_all.ensures.removed told F (subst (λ (l : List Note). Keeps s F l) (sym is) keeps)) in
    let away = no_error _ c.remove_all.result (sym c.if-is_err.ensures.value) removed.ok in
    let returned = c.return_all.ensures.returned told F ns (notes_in_inside s.held t.held c.args.places.now removed.inside ∙ is) removed.keeps new away in
    unsynced_put s t u F ns c.return_all.result removed.goes removed.inside removed.touches returned v c.sync.ensures.moments (c.sync.ensures.syncs told).stays _ refl

pub returns-clause-back : goal.returns-clause-back
returns-clause-back g c = λ told F ns is keeps new.
    let s = g.V.Volume.state c.args.vol.now in let t = g.V.Volume.state c.remove_all.new.vol in let u = g.V.Volume.state c.return_all.new.vol in let v = g.V.Volume.state c.sync.new.self in
    let removed = subst (λ (l : List Note). Removed s t F l c.remove_all.result) is (c.remove_all.ensures.removed told F (subst (λ (l : List Note). Keeps s F l) (sym is) keeps)) in
    let away = no_error _ c.remove_all.result (sym c.if-is_err.ensures.value) removed.ok in
    let notes = notes_in_inside s.held t.held c.args.places.now removed.inside ∙ is in
    let returned = c.return_all.ensures.returned told F ns notes removed.keeps new away in
    let back = (c.in_ok-return_all.ensures.returned told F ns notes removed.keeps new away).ok in
    let syncs = c.sync.ensures.syncs told in
    all_put s t u F ns c.return_all.result removed.goes removed.inside removed.touches returned v c.sync.ensures.moments syncs.stays tt back (no_error _ c.sync.result (sym c.if-is_err-2.ensures.value) syncs.ok)
