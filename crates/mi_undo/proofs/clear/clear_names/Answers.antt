use Rattle.std.proofs.Common.{ℕ, List, sym, subst}
use Rattle.std.proofs.lemmas.List.{take_all}
use Rattle.std.proofs.lemmas.Result.{err_from_is_err_and}
use Rattle.mi_volume.proofs.Moments.{passes, then_passes, joined, weaker}
use Rattle.mi_undo.specs.Clear.{StandsPlainly, Clearing}
use Rattle.mi_undo.proofs.ClearLemmas.{inside_at, shut_image_of, shut_kept, clearing_step, take_name}
use Rattle.mi_undo.proofs.clear.clear_names.Goals as goal

pub returns-in_err-remove-clause-cleared : goal.returns-in_err-remove-clause-cleared
returns-in_err-remove-clause-cleared g c = λ told A inside shut.
    let so_far = c.loop-name.invariant.clearing told A inside shut in
    let here = inside_at c.args.names.now c.loop-name.name-index c.name-item.result inside c.loop-name-test.true c.name-item.is in
    let removes = c.remove.ensures.removes told in
    let p = err_from_is_err_and c.from_residual.result c.from_residual.ensures.1 in
    record {
      goes = joined _ _ _ (StandsPlainly A) so_far.goes (weaker _ _ _ (StandsPlainly A) (shut_image_of _ A _ so_far.is_shut here.0 here.1) c.remove.ensures.moments);
      is_shut = shut_kept _ _ A _ so_far.is_shut here.0 here.1 removes.others removes.dirty;
      away = rw (p.1) tt;
      still = rw (p.1) tt;
    }

pub loop-name-preserved : goal.loop-name-preserved
loop-name-preserved g c = record {
  passes = then_passes _ _ _ c.loop-name.invariant.passes (passes _ _ _ c.remove.ensures.moments);
  clearing = λ told A inside shut.
      let so_far = c.loop-name.invariant.clearing told A inside shut in
      let here = inside_at c.args.names.now c.loop-name.name-index c.name-item.result inside c.loop-name-test.true c.name-item.is in
      let removes = c.in_ok-remove.ensures.removes told in
      subst (λ (front : List (List ℕ)). Clearing (g.V.Volume.state c.args.vol.now) (g.V.Volume.state c.remove.new.self) A front) (sym (take_name c.args.names.now c.loop-name.name-index c.name-item.result c.loop-name-test.true c.name-item.is))
      (clearing_step _ _ _ A _ c.name-item.result so_far here.0 here.1 c.remove.ensures.moments removes.others removes.dirty removes.ok);
}

pub returns-clause-cleared : goal.returns-clause-cleared
returns-clause-cleared g c = λ told A inside shut.
    let so_far = subst (λ (l : List (List ℕ)). Clearing (g.V.Volume.state c.args.vol.now) (g.V.Volume.state c.loop-name.vol) A l) (take_all c.loop-name.name-index c.args.names.now c.loop-name-test.false) (c.loop-name.invariant.clearing told A inside shut) in
    record { goes = so_far.goes; is_shut = so_far.is_shut; away = so_far.away; still = so_far.still }
