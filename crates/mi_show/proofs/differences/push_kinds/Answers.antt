use Rattle.std.proofs.Common.{◌≡◌, ℕ, List, sym, subst}
use Rattle.mi_text.specs.Maps.{Map}
use Rattle.mi_volume.proofs.Moments.{then_passes}
use Rattle.mi_image.proofs.LookLemmas.{looks_then}
use Rattle.mi_show.specs.declared.differences.Kind.{Kind}
use Rattle.mi_print_looks.specs.Machines.{machine_in}
use Rattle.mi_show.specs.Machines.{IsScanned}
use Rattle.mi_show.specs.Differences.{differences, titled}
use Rattle.mi_show.proofs.DiffLemmas.{pair_step, flat_done}
use Rattle.mi_show.proofs.differences.push_kinds.Goals as goal

pub loop-kind-preserved : goal.loop-kind-preserved
loop-kind-preserved g c =
    let state = g.V.Volume.state in
    let state_other = g.W.Volume.state in
    let held = (state c.args.vol.now).held in
    let held_other = (state_other c.args.other.now).held in
    let before = c.args.before.now in
    let after = c.args.after.now in
    let so = c.loop-kind.invariant in
    let step = c.in_ok-push_kind.ensures in
    record {
      text = λ told told_other there there_other.
          let same : (state c.loop-kind.vol).held ≡ held = (so.looks told).stays.held in
          let same_other : (state_other c.loop-kind.other).held ≡ held_other = (so.looks_other told_other).stays.held in
          pair_step (λ p q (k : Kind). titled k.title.now (differences k.front.now (machine_in p before) (machine_in q after))) held_other (state_other c.loop-kind.other).held held (state c.loop-kind.vol).held
          c.args.kinds.now c.loop-kind.kind-index _ c.loop-kind.out.items c.push_kind.new.out.items _ same_other same c.loop-kind-test.true
          (step.text told told_other (subst (λ (d : Map (List ℕ)). IsScanned d after) (sym same) there) (subst (λ (d : Map (List ℕ)). IsScanned d before) (sym same_other) there_other))
          (so.text told told_other there there_other);
      looks = λ told. looks_then (state c.args.vol.now) (state c.loop-kind.vol) (state c.push_kind.new.vol) (so.looks told) (step.looks told);
      passes = then_passes (state c.args.vol.now) (state c.loop-kind.vol) (state c.push_kind.new.vol) so.passes step.passes;
      looks_other = λ told. looks_then (state_other c.args.other.now) (state_other c.loop-kind.other) (state_other c.push_kind.new.other) (so.looks_other told) (step.looks_other told);
      passes_other = then_passes (state_other c.args.other.now) (state_other c.loop-kind.other) (state_other c.push_kind.new.other) so.passes_other step.passes_other;
    }

pub returns-clause-text : goal.returns-clause-text
returns-clause-text g c = λ told told_other there there_other.
    let held = (g.V.Volume.state c.args.vol.now).held in
    let held_other = (g.W.Volume.state c.args.other.now).held in
    flat_done (λ (k : Kind). titled k.title.now (differences k.front.now (machine_in held_other c.args.before.now) (machine_in held c.args.after.now))) c.args.kinds.now c.loop-kind.kind-index c.loop-kind.out.items _ c.loop-kind-test.false (c.loop-kind.invariant.text told told_other there there_other)
