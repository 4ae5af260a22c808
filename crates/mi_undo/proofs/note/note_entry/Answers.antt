use Rattle.std.proofs.Common.{ℕ, List, [], ◌∷◌, Ok, Err, ap, subst, ◌∙◌}
use Rattle.std.specs.FinMap.{insert}
use Rattle.mi_volume.specs.Maps.{Fits, Exceeds, size}
use Rattle.mi_undo.specs.Notes.{notes_for}
use Rattle.mi_undo.specs.Names.{entry_name, is_inside}
use Rattle.mi_undo.specs.Steps.{HoldsNoMore, Seals}
use Rattle.mi_undo.specs.Entry.{WritesEntry}
use Rattle.mi_undo.specs.declared.fault.OpFault.{OpFault}
use Rattle.mi_undo.proofs.FaultLemmas.{fault_not_full, handed_on}
use Rattle.mi_undo.proofs.StepLemmas.{only_looks, only_then, no_more_stays}
use Rattle.mi_undo.proofs.EnterLemmas.{notes_for-held, enters_failed, gate_failed, entered}
use Rattle.mi_undo.proofs.note.note_entry.Goals as goal

pub returns-in_err-places-clause-enters : goal.returns-in_err-places-clause-enters
returns-in_err-places-clause-enters g c = λ told F parts o at new.
    let s = g.V.Volume.state c.args.vol.now in
    let r = c.from_residual in
    let writes = subst (λ (e : List ℕ). WritesEntry e c.args.number (notes_for s.held c.args.names.now) s (g.V.Volume.state c.write_entry.new.vol) (Err c.in_err-places.field-0.0)) c.requires.entry
    (c.in_err-places.ensures.writes told (ap is_inside c.requires.entry) c.requires.outside) in
    enters_failed c.args.number s F parts (notes_for s.held c.args.names.now) o at c.requires.few (g.V.Volume.state c.write_entry.new.vol) r.result writes.adds.only writes.adds.most r.ensures.0
    (λ full. writes.adds.full (handed_on r.result _ _ r.ensures.1 full))

pub returns-in_err-sync-clause-enters : goal.returns-in_err-sync-clause-enters
returns-in_err-sync-clause-enters g c = λ told F parts o at new.
    let s = g.V.Volume.state c.args.vol.now in
    let r = c.from_residual-in_err-sync in
    let writes = subst (λ (e : List ℕ). WritesEntry e c.args.number (notes_for s.held c.args.names.now) s (g.V.Volume.state c.write_entry.new.vol) (Ok c.in_ok-places.places)) c.requires.entry
    (c.in_ok-places.ensures.writes told (ap is_inside c.requires.entry) c.requires.outside) in
    enters_failed c.args.number s F parts (notes_for s.held c.args.names.now) o at c.requires.few (g.V.Volume.state c.sync.new.self) r.result
    (only_then _ _ _ _ writes.adds.only (only_looks _ _ _ c.sync.ensures.moments (c.in_err-sync.ensures.syncs told).stays))
    (no_more_stays s (g.V.Volume.state c.write_entry.new.vol) (g.V.Volume.state c.sync.new.self) (entry_name c.args.number) _ (c.in_err-sync.ensures.syncs told).stays.held writes.adds.most) r.ensures.0
    (λ full. absurd (fault_not_full r.result r.ensures.1 full))

pub returns-in_err-put_synced-clause-enters : goal.returns-in_err-put_synced-clause-enters
returns-in_err-put_synced-clause-enters g c = λ told F parts o at new.
    let s = g.V.Volume.state c.args.vol.now in
    let t = g.V.Volume.state c.sync.new.self in
    let writes = subst (λ (e : List ℕ). WritesEntry e c.args.number (notes_for s.held c.args.names.now) s (g.V.Volume.state c.write_entry.new.vol) (Ok c.in_ok-places.places)) c.requires.entry
    (c.in_ok-places.ensures.writes told (ap is_inside c.requires.entry) c.requires.outside) in
    let syncs = c.in_ok-sync.ensures.syncs told in
    let only = only_then _ _ _ _ writes.adds.only (only_looks _ _ _ c.sync.ensures.moments syncs.stays) in
    let r = c.from_residual-in_err-put_synced in
    let seals = subst (λ (n : List ℕ). Seals {T = Unit {0}} n (1 ∷ []) t (g.V.Volume.state c.put_synced.new.vol) (Err c.in_err-put_synced.field-0.0)) c.requires.gate (c.in_err-put_synced.ensures.seals told) in
    gate_failed c.args.number s F parts (notes_for s.held c.args.names.now) o at c.requires.few t only (syncs.stays.held ∙ writes.adds.ok) syncs.ok new writes.fit (notes_for-held s.held c.args.names.now)
    (g.V.Volume.state c.put_synced.new.vol) seals.only r.result (subst (λ (n : List ℕ). HoldsNoMore n 1 t (g.V.Volume.state c.put_synced.new.vol)) c.requires.gate (c.in_err-put_synced.ensures.most told)) r.ensures.0
    (λ full. subst (λ (n : List ℕ). Exceeds t.capacity (size (insert t.held n (1 ∷ [])))) c.requires.gate (c.in_err-put_synced.ensures.full (handed_on r.result _ _ r.ensures.1 full)).1)

pub returns-clause-enters : goal.returns-clause-enters
returns-clause-enters g c = λ told F parts o at new.
    let s = g.V.Volume.state c.args.vol.now in
    let t = g.V.Volume.state c.sync.new.self in
    let writes = subst (λ (e : List ℕ). WritesEntry e c.args.number (notes_for s.held c.args.names.now) s (g.V.Volume.state c.write_entry.new.vol) (Ok c.in_ok-places.places)) c.requires.entry
    (c.in_ok-places.ensures.writes told (ap is_inside c.requires.entry) c.requires.outside) in
    let syncs = c.in_ok-sync.ensures.syncs told in
    let only = only_then _ _ _ _ writes.adds.only (only_looks _ _ _ c.sync.ensures.moments syncs.stays) in
    let seals = subst (λ (n : List ℕ). Seals {T = Unit {0}} {E = OpFault} n (1 ∷ []) t (g.V.Volume.state c.put_synced.new.vol) (Ok tt)) c.requires.gate (c.in_ok-put_synced.ensures.seals told) in
    entered c.args.number s F parts (notes_for s.held c.args.names.now) o at c.requires.few t only (syncs.stays.held ∙ writes.adds.ok) syncs.ok new writes.fit (notes_for-held s.held c.args.names.now)
    (g.V.Volume.state c.put_synced.new.vol) seals.only c.in_ok-places.places seals.ok.0 seals.ok.1 writes.places
    (subst (λ (n : List ℕ). Fits t.capacity (size (insert t.held n (1 ∷ [])))) c.requires.gate (c.in_ok-put_synced.ensures.fits told))
