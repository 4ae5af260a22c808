use Rattle.std.proofs.Common.{ℕ, Option, IsSome, false, OnOk, sym, subst}
use Rattle.mi_volume.specs.Maps.{Map}
use Rattle.mi_undo.specs.Stands.{StandsFor, outside}
use Rattle.mi_undo.proofs.FaultLemmas.{at_err}
use Rattle.mi_undo.proofs.SettleSteps.{stands_shut, not_both_read, settled_clean, looked_goes, looked_short, looked_stands, settles_looked, settles_after, settles_cleared, at_marker, shut_looked, full_weaker}
use Rattle.mi_undo.proofs.StepLemmas.{within_stays}
use Rattle.mi_undo.proofs.ShortLemmas.{short_same}
use Rattle.mi_undo.proofs.SumLemmas.{shut_not_short}
use Rattle.mi_undo.proofs.settling.settle_synced.Goals as goal

pub returns-in_err-is_open-clause-settles : goal.returns-in_err-is_open-clause-settles
returns-in_err-is_open-clause-settles g c = λ told F sf.
    let s = g.V.Volume.state c.args.vol.now in let t = g.V.Volume.state c.is_open.new.vol in
    let looks = c.is_open.ensures.looks told in let clean = c.requires.clean told in
    settles_looked s t F clean sf looks c.from_residual.result c.from_residual.ensures.0

pub returns-then-branch-clause-known : goal.returns-then-branch-clause-known
returns-then-branch-clause-known g c = λ told.
    subst (λ (m : Map). OnOk c.settle_open.result ((F : Map) × StandsFor F m)) (c.is_open.ensures.looks told).stays.held (c.settle_open.ensures.known told)

pub returns-then-branch-clause-settles : goal.returns-then-branch-clause-settles
returns-then-branch-clause-settles g c = λ told F sf.
    let s = g.V.Volume.state c.args.vol.now in let t = g.V.Volume.state c.is_open.new.vol in
    let looks = c.is_open.ensures.looks told in let clean = c.requires.clean told in
    settles_after s t (g.V.Volume.state c.settle_open.new.vol) F c.settle_open.result clean sf looks (c.settle_open.ensures.settles told F (looked_stands s t F clean sf looks))

pub returns-in_err-clear_rest-clause-settles : goal.returns-in_err-clear_rest-clause-settles
returns-in_err-clear_rest-clause-settles g c = λ told F sf.
    let s = g.V.Volume.state c.args.vol.now in let t = g.V.Volume.state c.is_open.new.vol in
    let looks = c.is_open.ensures.looks told in let clean = c.requires.clean told in
    let shut = at_marker s.held c.args.marker_name.now c.in_ok-is_open.field-0 false (c.in_ok-is_open.ensures.value told) c.requires.name c.if-branch.false in
    settles_cleared s t (g.V.Volume.state c.clear_rest.new.vol) F c.clear_rest.result c.from_residual-in_err-clear_rest.result (looked_goes s t F clean sf looks) (looked_short s t clean looks)
    (c.clear_rest.ensures.clears told F c.requires.name (shut_looked s t F clean sf looks shut)) (at_err _ c.from_residual-in_err-clear_rest.result c.from_residual-in_err-clear_rest.ensures.0)

pub returns-in_err-clear_rest-clause-unread : goal.returns-in_err-clear_rest-clause-unread
returns-in_err-clear_rest-clause-unread g c = λ told bad refused.
    let s = g.V.Volume.state c.args.vol.now in let t = g.V.Volume.state c.is_open.new.vol in
    let looks = c.is_open.ensures.looks told in let clean = c.requires.clean told in
    let shut = at_marker s.held c.args.marker_name.now c.in_ok-is_open.field-0 false (c.in_ok-is_open.ensures.value told) c.requires.name c.if-branch.false in
    absurd (not_both_read s.held (outside s.held) bad (stands_shut s.held shut) refused)

pub returns-clause-settled : goal.returns-clause-settled
returns-clause-settled g c = λ told.
    let s = g.V.Volume.state c.args.vol.now in let t = g.V.Volume.state c.is_open.new.vol in
    let looks = c.is_open.ensures.looks told in let clean = c.requires.clean told in
    let shut = at_marker s.held c.args.marker_name.now c.in_ok-is_open.field-0 false (c.in_ok-is_open.ensures.value told) c.requires.name c.if-branch.false in
    settled_clean s.held shut

pub returns-clause-known : goal.returns-clause-known
returns-clause-known g c = λ told.
    let s = g.V.Volume.state c.args.vol.now in let t = g.V.Volume.state c.is_open.new.vol in
    let looks = c.is_open.ensures.looks told in let clean = c.requires.clean told in
    let shut = at_marker s.held c.args.marker_name.now c.in_ok-is_open.field-0 false (c.in_ok-is_open.ensures.value told) c.requires.name c.if-branch.false in
    (outside s.held, stands_shut s.held shut)

pub returns-clause-settles : goal.returns-clause-settles
returns-clause-settles g c = λ told F sf.
    let s = g.V.Volume.state c.args.vol.now in let t = g.V.Volume.state c.is_open.new.vol in
    let looks = c.is_open.ensures.looks told in let clean = c.requires.clean told in
    let shut = at_marker s.held c.args.marker_name.now c.in_ok-is_open.field-0 false (c.in_ok-is_open.ensures.value told) c.requires.name c.if-branch.false in
    settles_cleared s t (g.V.Volume.state c.clear_rest.new.vol) F _ _ (looked_goes s t F clean sf looks) (looked_short s t clean looks) (c.in_ok-clear_rest.ensures.clears told F c.requires.name (shut_looked s t F clean sf looks shut)) (λ ok. ok)

pub returns-clause-unread : goal.returns-clause-unread
returns-clause-unread g c = λ told bad refused.
    let s = g.V.Volume.state c.args.vol.now in let t = g.V.Volume.state c.is_open.new.vol in
    let looks = c.is_open.ensures.looks told in let clean = c.requires.clean told in
    let shut = at_marker s.held c.args.marker_name.now c.in_ok-is_open.field-0 false (c.in_ok-is_open.ensures.value told) c.requires.name c.if-branch.false in
    absurd (not_both_read s.held (outside s.held) bad (stands_shut s.held shut) refused)

pub returns-then-branch-clause-full : goal.returns-then-branch-clause-full
returns-then-branch-clause-full g c =
    let s = g.V.Volume.state c.args.vol.now in
    full_weaker c.settle_open.result _ _ (λ name h. (h.0, subst (λ (k : Option ℕ). IsSome k) c.is_open.ensures.passes.capacity h.1, short_same s.capacity _ s.held _ name c.is_open.ensures.passes.capacity (c.is_open.ensures.looks h.0).stays.held h.2)) c.settle_open.ensures.full

pub returns-then-branch-clause-short : goal.returns-then-branch-clause-short
returns-then-branch-clause-short g c = λ told name short.
    let s = g.V.Volume.state c.args.vol.now in let t = g.V.Volume.state c.is_open.new.vol in
    c.settle_open.ensures.short told name (short_same t.capacity s.capacity t.held s.held name (sym c.is_open.ensures.passes.capacity) (sym (c.is_open.ensures.looks told).stays.held) short)

pub settle_open-requires-clause-within : goal.settle_open-requires-clause-within
settle_open-requires-clause-within g c = λ told. within_stays (g.V.Volume.state c.args.vol.now) (g.V.Volume.state c.is_open.new.vol) c.is_open.ensures.passes.capacity (c.is_open.ensures.looks told).stays (c.requires.within told)

pub returns-clause-short : goal.returns-clause-short
returns-clause-short g c = λ told name short.
    let s = g.V.Volume.state c.args.vol.now in
    absurd (shut_not_short s.capacity s.held name (at_marker s.held c.args.marker_name.now c.in_ok-is_open.field-0 false (c.in_ok-is_open.ensures.value told) c.requires.name c.if-branch.false) short)
