use Rattle.std.proofs.Common.{◌≡◌, ℕ, List, Bor, sym, subst}
use Rattle.mi_text.specs.Maps.{Map}
use Rattle.mi_volume.proofs.Moments.{then_passes}
use Rattle.mi_image.proofs.LookLemmas.{looks_then}
use Rattle.mi_print_looks.specs.Machines.{machine_in}
use Rattle.mi_show.specs.Machines.{IsScanned}
use Rattle.mi_show.specs.Differences.{difference}
use Rattle.mi_show.proofs.DiffLemmas.{pair_step, flat_done}
use Rattle.mi_show.proofs.differences.push_all.Goals as goal

pub loop-name-preserved : goal.loop-name-preserved
loop-name-preserved g c =
    let state = g.V.Volume.state in
    let state_other = g.W.Volume.state in
    let held = (state c.args.vol.now).held in
    let held_other = (state_other c.args.other.now).held in
    let before = c.args.before.now in
    let after = c.args.after.now in
    let so = c.loop-name.invariant in
    let step = c.in_ok-push_difference.ensures in
    record {
      text = λ told told_other there there_other.
          let same : (state c.loop-name.vol).held ≡ held = (so.looks told).stays.held in
          let same_other : (state_other c.loop-name.other).held ≡ held_other = (so.looks_other told_other).stays.held in
          pair_step (λ p q (n : Bor (List ℕ)). difference (machine_in p before) (machine_in q after) n.now) held_other (state_other c.loop-name.other).held held (state c.loop-name.vol).held
          c.args.names.now c.loop-name.name-index _ c.loop-name.out.items c.push_difference.new.out.items _ same_other same c.loop-name-test.true
          (step.text told told_other (subst (λ (d : Map (List ℕ)). IsScanned d after) (sym same) there) (subst (λ (d : Map (List ℕ)). IsScanned d before) (sym same_other) there_other))
          (so.text told told_other there there_other);
      looks = λ told. looks_then (state c.args.vol.now) (state c.loop-name.vol) (state c.push_difference.new.vol) (so.looks told) (step.looks told);
      passes = then_passes (state c.args.vol.now) (state c.loop-name.vol) (state c.push_difference.new.vol) so.passes step.passes;
      looks_other = λ told. looks_then (state_other c.args.other.now) (state_other c.loop-name.other) (state_other c.push_difference.new.other) (so.looks_other told) (step.looks_other told);
      passes_other = then_passes (state_other c.args.other.now) (state_other c.loop-name.other) (state_other c.push_difference.new.other) so.passes_other step.passes_other;
    }

pub returns-clause-text : goal.returns-clause-text
returns-clause-text g c = λ told told_other there there_other.
    let held = (g.V.Volume.state c.args.vol.now).held in
    let held_other = (g.W.Volume.state c.args.other.now).held in
    flat_done (λ (n : Bor (List ℕ)). difference (machine_in held_other c.args.before.now) (machine_in held c.args.after.now) n.now) c.args.names.now c.loop-name.name-index c.loop-name.out.items _ c.loop-name-test.false (c.loop-name.invariant.text told told_other there there_other)
