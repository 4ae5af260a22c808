use Rattle.std.proofs.Common.{sym, ◌∙◌}
use Rattle.mi_image.proofs.StatedLemmas.{texts_step, texts_stop, no_texts}
use Rattle.mi_volume.proofs.Moments.{then_passes}
use Rattle.mi_image.proofs.LookLemmas.{looks_then}
use Rattle.mi_image.proofs.stated.texts_end.Goals as goal

pub returns-in_default-clause-value : goal.returns-in_default-clause-value
returns-in_default-clause-value g c = λ told whole shows.
    let inv = c.loop.invariant in
    let ends = c.in_ok-next.ensures.value told whole (inv.shows told whole shows) in
    sym (inv.value told whole shows ∙ texts_stop whole c.loop.end c.args.count c.loop.counter c.loop-test.true (sym ends ∙ c.in_default.is))

pub loop-preserved : goal.loop-preserved
loop-preserved g c =
    let state = g.V.Volume.state in
    let inv = c.loop.invariant in
    let call = c.in_ok-next.ensures in
    record {
      shows = λ told whole shows. call.shows told whole (inv.shows told whole shows);
      value = λ told whole shows.
          let ends = call.value told whole (inv.shows told whole shows) in
          inv.value told whole shows ∙ texts_step whole c.loop.end c.in-Some.next c.args.count c.loop.counter c.loop-test.true (sym ends ∙ c.in-Some.is);
      looks = λ told. looks_then (state c.args.vol.now) (state c.loop.vol) (state c.text_end.new.vol) (inv.looks told) (call.looks told);
      passes = then_passes (state c.args.vol.now) (state c.loop.vol) (state c.text_end.new.vol) inv.passes call.passes;
    }

pub returns-clause-value : goal.returns-clause-value
returns-clause-value g c = λ told whole shows.
    sym (c.loop.invariant.value told whole shows ∙ no_texts whole c.loop.end c.args.count c.loop.counter c.loop-test.false)
