use Rattle.std.proofs.Common.{ap}
use Rattle.mi_volume.proofs.Moments.{started, joined}
use Rattle.mi_undo.specs.Names.{is_inside}
use Rattle.mi_undo.specs.Clear.{StandsPlainly}
use Rattle.mi_undo.proofs.SweepLemmas.{away_top, top_not_marker, clears_not, cleared_not, all_clears}
use Rattle.mi_undo.proofs.sweep.clear_rest.Goals as goal

pub returns-in_err-top-clause-clears : goal.returns-in_err-top-clause-clears
returns-in_err-top-clause-clears g c = λ told A is shut.
    let s = g.V.Volume.state c.args.vol.now in
    clears_not s s A c.from_residual.result (started s (StandsPlainly A)) shut c.from_residual.ensures.0

pub returns-in_err-sweep_name-clause-clears : goal.returns-in_err-sweep_name-clause-clears
returns-in_err-sweep_name-clause-clears g c = λ told A is shut.
    let sweeps = c.sweep_name.ensures.sweeps told A is (ap is_inside c.in_ok-top.ensures) shut in
    clears_not (g.V.Volume.state c.args.vol.now) (g.V.Volume.state c.sweep_name.new.vol) A c.from_residual-in_err-sweep_name.result sweeps.goes sweeps.is_shut c.from_residual-in_err-sweep_name.ensures.0

pub returns-in_err-sweep_above-clause-clears : goal.returns-in_err-sweep_above-clause-clears
returns-in_err-sweep_above-clause-clears g c = λ told A is shut.
    let s = g.V.Volume.state c.args.vol.now in let t = g.V.Volume.state c.sweep_name.new.vol in let u = g.V.Volume.state c.sweep_above.new.vol in
    let sweeps = c.in_ok-sweep_name.ensures.sweeps told A is (ap is_inside c.in_ok-top.ensures) shut in
    let swept = c.sweep_above.ensures.swept told A is sweeps.is_shut (away_top s.held t.held c.in_ok-top.top c.in_ok-top.ensures (sweeps.away (top_not_marker c.in_ok-top.top c.in_ok-top.ensures))) in
    clears_not s u A c.from_residual-in_err-sweep_above.result (joined s t u (StandsPlainly A) sweeps.goes swept.goes) swept.is_shut c.from_residual-in_err-sweep_above.ensures.0

pub returns-in_err-clear_marker-clause-clears : goal.returns-in_err-clear_marker-clause-clears
returns-in_err-clear_marker-clause-clears g c = λ told A is shut.
    let s = g.V.Volume.state c.args.vol.now in let t = g.V.Volume.state c.sweep_name.new.vol in let u = g.V.Volume.state c.sweep_above.new.vol in let v = g.V.Volume.state c.clear_marker.new.vol in
    let sweeps = c.in_ok-sweep_name.ensures.sweeps told A is (ap is_inside c.in_ok-top.ensures) shut in
    let swept = c.in_ok-sweep_above.ensures.swept told A is sweeps.is_shut (away_top s.held t.held c.in_ok-top.top c.in_ok-top.ensures (sweeps.away (top_not_marker c.in_ok-top.top c.in_ok-top.ensures))) in
    cleared_not s u v A c.clear_marker.result c.from_residual-in_err-clear_marker.result (joined s t u (StandsPlainly A) sweeps.goes swept.goes) (c.clear_marker.ensures.clears told A is swept.is_shut swept.ok) c.from_residual-in_err-clear_marker.ensures.0

pub returns-clause-clears : goal.returns-clause-clears
returns-clause-clears g c = λ told A is shut.
    let s = g.V.Volume.state c.args.vol.now in let t = g.V.Volume.state c.sweep_name.new.vol in let u = g.V.Volume.state c.sweep_above.new.vol in let v = g.V.Volume.state c.clear_marker.new.vol in
    let sweeps = c.in_ok-sweep_name.ensures.sweeps told A is (ap is_inside c.in_ok-top.ensures) shut in
    let swept = c.in_ok-sweep_above.ensures.swept told A is sweeps.is_shut (away_top s.held t.held c.in_ok-top.top c.in_ok-top.ensures (sweeps.away (top_not_marker c.in_ok-top.top c.in_ok-top.ensures))) in
    all_clears s u v A (joined s t u (StandsPlainly A) sweeps.goes swept.goes) (c.in_ok-clear_marker.ensures.clears told A is swept.is_shut swept.ok)
