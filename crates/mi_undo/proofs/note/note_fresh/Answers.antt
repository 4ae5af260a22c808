use Rattle.std.proofs.Common.{◌≡◌, List, ◌∷◌, [], ◌++◌, true, arith, refl, subst, ◌∙◌}
use Rattle.mi_undo.specs.Notes.{Note, notes_for, are_new}
use Rattle.mi_undo.proofs.FaultLemmas.{handed_on, memory_not_full}
use Rattle.mi_undo.proofs.EnterLemmas.{adds_nothing, adds_failed_so}
use Rattle.mi_undo.proofs.AreaLemmas.{unwritten, unkept, noted}
use Rattle.mi_undo.proofs.NameLemmas.{few_is}
use Rattle.mi_undo.proofs.AreaRoom.{room_start, room_entered}
use Rattle.mi_undo.proofs.note.note_fresh.Goals as goal

pub returns-in_err-entry-clause-notes : goal.returns-in_err-entry-clause-notes
returns-in_err-entry-clause-notes g c = λ told F w new. unwritten (g.V.Volume.state c.args.vol.now) c.args.kept.now _ F w refl _ refl refl c.from_residual.ensures.0

pub returns-in_err-gate-clause-notes : goal.returns-in_err-gate-clause-notes
returns-in_err-gate-clause-notes g c = λ told F w new. unwritten (g.V.Volume.state c.args.vol.now) c.args.kept.now _ F w refl _ refl refl c.from_residual-in_err-gate.ensures.0

pub returns-in_err-keep_names-clause-notes : goal.returns-in_err-keep_names-clause-notes
returns-in_err-keep_names-clause-notes g c = λ told F w new.
    unwritten (g.V.Volume.state c.args.vol.now) c.args.kept.now _ F w refl _ refl c.in_err-keep_names.ensures.err c.from_residual-in_err-keep_names.ensures.0

pub returns-in_err-places-clause-notes : goal.returns-in_err-places-clause-notes
returns-in_err-places-clause-notes g c = λ told F w new.
    let before = subst (λ (l : List Note). are_new l (notes_for (g.V.Volume.state c.args.vol.now).held c.args.names.now) ≡ true) w.placed new in
    let named = c.in_ok-keep_names.ensures.ok ∙ (λ i. c.args.kept.now.area.items ++ c.in_ok-entry.ensures i ∷ c.in_ok-gate.ensures i ∷ []) in
    unkept (g.V.Volume.state c.args.vol.now) c.args.kept.now _ F w refl (g.V.Volume.state c.note_entry.new.vol) _ _ (c.in_err-places.ensures.enters told F w.parts w.is_open w.entries before) c.requires.few named _ refl c.from_residual-in_err-places.ensures.0

pub returns-in_err-append-clause-notes : goal.returns-in_err-append-clause-notes
returns-in_err-append-clause-notes g c = λ told F w new.
    let before = subst (λ (l : List Note). are_new l (notes_for (g.V.Volume.state c.args.vol.now).held c.args.names.now) ≡ true) w.placed new in
    let named = c.in_ok-keep_names.ensures.ok ∙ (λ i. c.args.kept.now.area.items ++ c.in_ok-entry.ensures i ∷ c.in_ok-gate.ensures i ∷ []) in
    unkept (g.V.Volume.state c.args.vol.now) c.args.kept.now _ F w refl (g.V.Volume.state c.note_entry.new.vol) _ _ (c.in_ok-places.ensures.enters told F w.parts w.is_open w.entries before) c.requires.few named _ c.in_err-append.ensures.items c.from_residual-in_err-append.ensures.0

pub returns-clause-notes : goal.returns-clause-notes
returns-clause-notes g c = λ told F w new.
    let before = subst (λ (l : List Note). are_new l (notes_for (g.V.Volume.state c.args.vol.now).held c.args.names.now) ≡ true) w.placed new in
    let named = c.in_ok-keep_names.ensures.ok ∙ (λ i. c.args.kept.now.area.items ++ c.in_ok-entry.ensures i ∷ c.in_ok-gate.ensures i ∷ []) in
    let e = c.in_ok-places.ensures.enters told F w.parts w.is_open w.entries before in
    noted (g.V.Volume.state c.args.vol.now) c.args.kept.now _ F w refl (g.V.Volume.state c.note_entry.new.vol) _ _ e c.requires.few named c.in_ok-places.places e.is_open e.placed e.places c.in_ok-append.ensures.items refl

pub returns-in_err-entry-clause-adds : goal.returns-in_err-entry-clause-adds
returns-in_err-entry-clause-adds g c = λ told F w new. adds_nothing _ (g.V.Volume.state c.args.vol.now) (g.V.Volume.state c.args.vol.now) _ (omega arith) c.from_residual.ensures.0 (memory_not_full _ c.from_residual.ensures.1)

pub returns-in_err-gate-clause-adds : goal.returns-in_err-gate-clause-adds
returns-in_err-gate-clause-adds g c = λ told F w new. adds_nothing _ (g.V.Volume.state c.args.vol.now) (g.V.Volume.state c.args.vol.now) _ (omega arith) c.from_residual-in_err-gate.ensures.0 (memory_not_full _ c.from_residual-in_err-gate.ensures.1)

pub returns-in_err-keep_names-clause-adds : goal.returns-in_err-keep_names-clause-adds
returns-in_err-keep_names-clause-adds g c = λ told F w new. adds_nothing _ (g.V.Volume.state c.args.vol.now) (g.V.Volume.state c.args.vol.now) _ (omega arith) c.from_residual-in_err-keep_names.ensures.0 (memory_not_full _ c.from_residual-in_err-keep_names.ensures.1)

pub returns-in_err-places-clause-adds : goal.returns-in_err-places-clause-adds
returns-in_err-places-clause-adds g c = λ told F w new.
    let before = subst (λ (l : List Note). are_new l (notes_for (g.V.Volume.state c.args.vol.now).held c.args.names.now) ≡ true) w.placed new in
    let r = c.from_residual-in_err-places in
    let adds = (c.in_err-places.ensures.enters told F w.parts w.is_open w.entries before).adds in
    adds_failed_so _ (g.V.Volume.state c.args.vol.now) (g.V.Volume.state c.note_entry.new.vol) r.result adds.most r.ensures.0
    (λ full. adds.full (handed_on r.result _ _ r.ensures.1 full))

pub returns-in_err-append-clause-adds : goal.returns-in_err-append-clause-adds
returns-in_err-append-clause-adds g c = λ told F w new.
    let before = subst (λ (l : List Note). are_new l (notes_for (g.V.Volume.state c.args.vol.now).held c.args.names.now) ≡ true) w.placed new in
    adds_nothing _ (g.V.Volume.state c.args.vol.now) (g.V.Volume.state c.note_entry.new.vol) _ (c.in_ok-places.ensures.enters told F w.parts w.is_open w.entries before).adds.most c.from_residual-in_err-append.ensures.0 (memory_not_full _ c.from_residual-in_err-append.ensures.1)

pub returns-clause-adds : goal.returns-clause-adds
returns-clause-adds g c = λ told F w new.
    let before = subst (λ (l : List Note). are_new l (notes_for (g.V.Volume.state c.args.vol.now).held c.args.names.now) ≡ true) w.placed new in
    let adds = (c.in_ok-places.ensures.enters told F w.parts w.is_open w.entries before).adds in
    record { ok = adds.ok; most = adds.most; fits = adds.fits; full = λ full. absurd (cc) }

pub overflow_add-kept : goal.overflow_add-kept
overflow_add-kept g c = let below = few_is c.args.kept.now.entries c.requires.few in omega (arith, below)

pub returns-in_err-entry-clause-room : goal.returns-in_err-entry-clause-room
returns-in_err-entry-clause-room g c = λ told F n w new takes. room_start (g.V.Volume.state c.args.vol.now) F n _ takes (omega arith)

pub returns-in_err-gate-clause-room : goal.returns-in_err-gate-clause-room
returns-in_err-gate-clause-room g c = λ told F n w new takes. room_start (g.V.Volume.state c.args.vol.now) F n _ takes (omega arith)

pub returns-in_err-keep_names-clause-room : goal.returns-in_err-keep_names-clause-room
returns-in_err-keep_names-clause-room g c = λ told F n w new takes. room_start (g.V.Volume.state c.args.vol.now) F n _ takes (omega arith)

pub returns-in_err-places-clause-room : goal.returns-in_err-places-clause-room
returns-in_err-places-clause-room g c = λ told F n w new takes.
    let before = subst (λ (l : List Note). are_new l (notes_for (g.V.Volume.state c.args.vol.now).held c.args.names.now) ≡ true) w.placed new in
    room_entered (g.V.Volume.state c.args.vol.now) (g.V.Volume.state c.note_entry.new.vol) F w.parts c.args.kept.now.entries _ _ (c.in_err-places.ensures.enters told F w.parts w.is_open w.entries before) n takes

pub returns-in_err-append-clause-room : goal.returns-in_err-append-clause-room
returns-in_err-append-clause-room g c = λ told F n w new takes.
    let before = subst (λ (l : List Note). are_new l (notes_for (g.V.Volume.state c.args.vol.now).held c.args.names.now) ≡ true) w.placed new in
    room_entered (g.V.Volume.state c.args.vol.now) (g.V.Volume.state c.note_entry.new.vol) F w.parts c.args.kept.now.entries _ _ (c.in_ok-places.ensures.enters told F w.parts w.is_open w.entries before) n takes

pub returns-clause-room : goal.returns-clause-room
returns-clause-room g c = λ told F n w new takes.
    let before = subst (λ (l : List Note). are_new l (notes_for (g.V.Volume.state c.args.vol.now).held c.args.names.now) ≡ true) w.placed new in
    room_entered (g.V.Volume.state c.args.vol.now) (g.V.Volume.state c.note_entry.new.vol) F w.parts c.args.kept.now.entries _ _ (c.in_ok-places.ensures.enters told F w.parts w.is_open w.entries before) n takes
