use Rattle.mi_undo.proofs.ClearLemmas.{unsynced, unremoved, unfinished, all_cleared}
use Rattle.mi_undo.proofs.clear.clear_marker.Goals as goal

pub returns-in_err-sync-clause-clears : goal.returns-in_err-sync-clause-clears
returns-in_err-sync-clause-clears g c = λ told A is shut all.
    let s = g.V.Volume.state c.args.vol.now in let t = g.V.Volume.state c.sync.new.self in
    unsynced s t t t A _ is shut all c.sync.ensures.moments (c.sync.ensures.syncs told).stays c.from_residual.result c.from_residual.ensures.0

pub returns-in_err-remove-clause-clears : goal.returns-in_err-remove-clause-clears
returns-in_err-remove-clause-clears g c = λ told A is shut all.
    let syncs = c.in_ok-sync.ensures.syncs told in
    let s = g.V.Volume.state c.args.vol.now in let t = g.V.Volume.state c.sync.new.self in let u = g.V.Volume.state c.remove.new.self in
    unremoved s t u u A _ is shut all c.sync.ensures.moments syncs.stays syncs.ok c.remove.ensures.moments c.remove.result (c.remove.ensures.removes told) c.from_residual-in_err-remove.result c.from_residual-in_err-remove.ensures.0

pub returns-in_err-sync-2-clause-clears : goal.returns-in_err-sync-2-clause-clears
returns-in_err-sync-2-clause-clears g c = λ told A is shut all.
    let syncs = c.in_ok-sync.ensures.syncs told in
    let s = g.V.Volume.state c.args.vol.now in let t = g.V.Volume.state c.sync.new.self in let u = g.V.Volume.state c.remove.new.self in let v = g.V.Volume.state c.sync-2.new.self in
    unfinished s t u v A _ is shut all c.sync.ensures.moments syncs.stays syncs.ok c.remove.ensures.moments c.remove.result (c.remove.ensures.removes told) c.sync-2.ensures.moments (c.sync-2.ensures.syncs told).stays c.from_residual-in_err-sync-2.result c.from_residual-in_err-sync-2.ensures.0

pub returns-clause-clears : goal.returns-clause-clears
returns-clause-clears g c = λ told A is shut all.
    let syncs = c.in_ok-sync.ensures.syncs told in
    let end = c.in_ok-sync-2.ensures.syncs told in
    let s = g.V.Volume.state c.args.vol.now in let t = g.V.Volume.state c.sync.new.self in let u = g.V.Volume.state c.remove.new.self in let v = g.V.Volume.state c.sync-2.new.self in
    all_cleared s t u v A _ is shut all c.sync.ensures.moments syncs.stays syncs.ok c.remove.ensures.moments c.remove.result (c.remove.ensures.removes told) c.sync-2.ensures.moments end.stays (c.in_ok-remove.ensures.removes told).ok end.ok
