use Rattle.std.proofs.Common.{◌≡◌, length, vec_len, arith, IsSome, ℕ, Option, sym, ap, subst, ◌∙◌}
use Rattle.mi_text.specs.declared.answers.Settled.TheVariants.{Undone}
use Rattle.mi_volume.proofs.Moments.{joined}
use Rattle.mi_undo.specs.Stands.{StandsFor, put_over, outside}
use Rattle.mi_undo.specs.Area.{notes_in}
use Rattle.mi_undo.proofs.StepLemmas.{within_stays}
use Rattle.mi_undo.proofs.FaultLemmas.{at_err}
use Rattle.mi_undo.proofs.SettleSteps.{stands_read, stands_bad, not_both_read, settled_undone, looked_goes, looked_stands, settles_looked, settles_undone, settles_cleared, short_after, bad_handed, full_handed}
use Rattle.mi_undo.proofs.ShortLemmas.{short_same}
use Rattle.mi_undo.proofs.settling.settle_open.Goals as goal

pub returns-in_err-places-clause-settles : goal.returns-in_err-places-clause-settles
returns-in_err-places-clause-settles g c = λ told F sf.
    settles_looked (g.V.Volume.state c.args.vol.now) (g.V.Volume.state c.read_area.new.vol) F (c.requires.clean told) sf (c.read_area.ensures.looks told) c.from_residual.result c.from_residual.ensures.0

pub returns-in_err-places-clause-bad : goal.returns-in_err-places-clause-bad
returns-in_err-places-clause-bad g c = λ told.
    let s = g.V.Volume.state c.args.vol.now in
    bad_handed (Unit {0}) c.from_residual.result c.in_err-places.field-0.0 _ _ c.from_residual.ensures.1 (λ name is. stands_bad s.held name (c.requires.marked told) is) (c.in_err-places.ensures.bad told)

pub returns-in_err-undo_read-clause-settles : goal.returns-in_err-undo_read-clause-settles
returns-in_err-undo_read-clause-settles g c = λ told F sf.
    let s = g.V.Volume.state c.args.vol.now in let t = g.V.Volume.state c.read_area.new.vol in let items = c.in_ok-places.places.items in
    let looks = c.read_area.ensures.looks told in let clean = c.requires.clean told in let marked = c.requires.marked told in let reads = c.in_ok-places.ensures.reads told in
    settles_undone s t (g.V.Volume.state c.undo_read.new.vol) F items c.deref.result.now c.undo_read.result c.from_residual-in_err-undo_read.result clean sf looks marked reads c.deref.ensures.value
    (c.undo_read.ensures.undoes told F (looked_stands s t F clean sf looks)) c.from_residual-in_err-undo_read.ensures.0

pub returns-in_err-undo_read-clause-unread : goal.returns-in_err-undo_read-clause-unread
returns-in_err-undo_read-clause-unread g c = λ told bad refused.
    let s = g.V.Volume.state c.args.vol.now in let t = g.V.Volume.state c.read_area.new.vol in let items = c.in_ok-places.places.items in
    let looks = c.read_area.ensures.looks told in let clean = c.requires.clean told in let marked = c.requires.marked told in let reads = c.in_ok-places.ensures.reads told in
    absurd (not_both_read s.held (outside (put_over (notes_in s.held items) s.held)) bad (stands_read s.held (notes_in s.held items) marked reads) refused)

pub returns-in_err-undo_read-clause-full : goal.returns-in_err-undo_read-clause-full
returns-in_err-undo_read-clause-full g c =
    let s = g.V.Volume.state c.args.vol.now in
    full_handed (Unit {0}) c.from_residual-in_err-undo_read.result c.in_err-undo_read.field-0.0 _ _ c.from_residual-in_err-undo_read.ensures.1
    (λ name h. (h.0, subst (λ (k : Option ℕ). IsSome k) c.read_area.ensures.passes.capacity h.1, short_same s.capacity _ s.held _ name c.read_area.ensures.passes.capacity (c.read_area.ensures.looks h.0).stays.held h.2))
    c.in_err-undo_read.ensures.full

pub returns-in_err-clear_rest-clause-settles : goal.returns-in_err-clear_rest-clause-settles
returns-in_err-clear_rest-clause-settles g c = λ told F sf.
    let s = g.V.Volume.state c.args.vol.now in let t = g.V.Volume.state c.read_area.new.vol in let items = c.in_ok-places.places.items in
    let looks = c.read_area.ensures.looks told in let clean = c.requires.clean told in let marked = c.requires.marked told in let reads = c.in_ok-places.ensures.reads told in
    let u = g.V.Volume.state c.undo_read.new.vol in
    let undoes = c.in_ok-undo_read.ensures.undoes told F (looked_stands s t F clean sf looks) in
    settles_cleared s u (g.V.Volume.state c.clear_rest.new.vol) F c.clear_rest.result c.from_residual-in_err-clear_rest.result (joined s t u (StandsFor F) (looked_goes s t F clean sf looks) undoes.goes) (short_after s t u clean looks undoes.short)
    (c.clear_rest.ensures.clears told F c.requires.name undoes.ok) (at_err _ c.from_residual-in_err-clear_rest.result c.from_residual-in_err-clear_rest.ensures.0)

pub returns-in_err-clear_rest-clause-unread : goal.returns-in_err-clear_rest-clause-unread
returns-in_err-clear_rest-clause-unread g c = λ told bad refused.
    let s = g.V.Volume.state c.args.vol.now in let t = g.V.Volume.state c.read_area.new.vol in let items = c.in_ok-places.places.items in
    let looks = c.read_area.ensures.looks told in let clean = c.requires.clean told in let marked = c.requires.marked told in let reads = c.in_ok-places.ensures.reads told in
    absurd (not_both_read s.held (outside (put_over (notes_in s.held items) s.held)) bad (stands_read s.held (notes_in s.held items) marked reads) refused)

pub returns-clause-settled : goal.returns-clause-settled
returns-clause-settled g c = λ told.
    let s = g.V.Volume.state c.args.vol.now in let t = g.V.Volume.state c.read_area.new.vol in let items = c.in_ok-places.places.items in
    let looks = c.read_area.ensures.looks told in let clean = c.requires.clean told in let marked = c.requires.marked told in let reads = c.in_ok-places.ensures.reads told in
    let long : vec_len c.in_ok-places.places ≡ length items = omega (arith, c.in_ok-places.places.ok) in
    ap Undone (c.len.ensures ∙ long) ∙ settled_undone s.held items marked reads

pub returns-clause-known : goal.returns-clause-known
returns-clause-known g c = λ told.
    let s = g.V.Volume.state c.args.vol.now in let t = g.V.Volume.state c.read_area.new.vol in let items = c.in_ok-places.places.items in
    let looks = c.read_area.ensures.looks told in let clean = c.requires.clean told in let marked = c.requires.marked told in let reads = c.in_ok-places.ensures.reads told in
    (outside (put_over (notes_in s.held items) s.held), stands_read s.held (notes_in s.held items) marked reads)

pub returns-clause-settles : goal.returns-clause-settles
returns-clause-settles g c = λ told F sf.
    let s = g.V.Volume.state c.args.vol.now in let t = g.V.Volume.state c.read_area.new.vol in let items = c.in_ok-places.places.items in
    let looks = c.read_area.ensures.looks told in let clean = c.requires.clean told in let marked = c.requires.marked told in let reads = c.in_ok-places.ensures.reads told in
    let u = g.V.Volume.state c.undo_read.new.vol in
    let undoes = c.in_ok-undo_read.ensures.undoes told F (looked_stands s t F clean sf looks) in
    settles_cleared s u (g.V.Volume.state c.clear_rest.new.vol) F _ _ (joined s t u (StandsFor F) (looked_goes s t F clean sf looks) undoes.goes) (short_after s t u clean looks undoes.short)
    (c.in_ok-clear_rest.ensures.clears told F c.requires.name undoes.ok) (λ ok. ok)

pub returns-clause-unread : goal.returns-clause-unread
returns-clause-unread g c = λ told bad refused.
    let s = g.V.Volume.state c.args.vol.now in let t = g.V.Volume.state c.read_area.new.vol in let items = c.in_ok-places.places.items in
    let looks = c.read_area.ensures.looks told in let clean = c.requires.clean told in let marked = c.requires.marked told in let reads = c.in_ok-places.ensures.reads told in
    absurd (not_both_read s.held (outside (put_over (notes_in s.held items) s.held)) bad (stands_read s.held (notes_in s.held items) marked reads) refused)

pub undo_read-requires-clause-within : goal.undo_read-requires-clause-within
undo_read-requires-clause-within g c = λ told. within_stays (g.V.Volume.state c.args.vol.now) (g.V.Volume.state c.read_area.new.vol) c.read_area.ensures.passes.capacity (c.read_area.ensures.looks told).stays (c.requires.within told)

pub returns-clause-short : goal.returns-clause-short
returns-clause-short g c = λ told name short.
    let s = g.V.Volume.state c.args.vol.now in let t = g.V.Volume.state c.read_area.new.vol in
    let undone = c.in_ok-undo_read.ensures.short told name (short_same t.capacity s.capacity t.held s.held name (sym c.read_area.ensures.passes.capacity) (sym (c.read_area.ensures.looks told).stays.held) short) in
    absurd (cc)
