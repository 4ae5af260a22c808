use Rattle.std.proofs.Common.{inl}
use Rattle.mi_undo.proofs.FaultLemmas.{at_err}
use Rattle.mi_undo.proofs.ClearLemmas.{shut_image, shut_held, shut_outside, all_away, then_cleared}
use Rattle.mi_undo.proofs.clear.clear_area.Goals as goal

pub returns-in_err-clear_names-clause-clears : goal.returns-in_err-clear_names-clause-clears
returns-in_err-clear_names-clause-clears g c = λ told A is inside shut all.
    let cleared = c.clear_names.ensures.cleared told A inside shut in
    let t = g.V.Volume.state c.clear_names.new.vol in
    record { goes = cleared.goes; leaves = λ d image. (shut_image t A cleared.is_shut d image).0; stands = shut_held t A cleared.is_shut; outside = shut_outside t A cleared.is_shut; ok = at_err _ c.from_residual.result c.from_residual.ensures.0 }

pub returns-clause-clears : goal.returns-clause-clears
returns-clause-clears g c = λ told A is inside shut all.
    let cleared = c.in_ok-clear_names.ensures.cleared told A inside shut in
    let s = g.V.Volume.state c.args.vol.now in let t = g.V.Volume.state c.clear_names.new.vol in
    then_cleared s t (g.V.Volume.state c.clear_marker.new.vol) A _ cleared.goes
    (c.clear_marker.ensures.clears told A is cleared.is_shut (λ q within ne. inl (all_away s t c.args.names.now all cleared.away cleared.still q within ne)))
