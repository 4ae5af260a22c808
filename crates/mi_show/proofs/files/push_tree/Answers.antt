use Rattle.std.proofs.Common.{◌≡◌, ◌++◌, ℕ, List, sym, ap, subst, ◌∙◌}
use Rattle.std.specs.Option.{option_copied}
use Rattle.mi_text.specs.Maps.{Map}
use Rattle.mi_volume.proofs.Moments.{then_passes}
use Rattle.mi_image.proofs.LookLemmas.{looks_then}
use Rattle.mi_print_looks.specs.Machines.{machine_in}
use Rattle.mi_show.specs.Machines.{IsScanned, lines_after}
use Rattle.mi_show.proofs.ImageLemmas.{tree_step, tree_done}
use Rattle.mi_show.proofs.files.push_tree.Goals as goal

pub loop-name-preserved : goal.loop-name-preserved
loop-name-preserved g c =
    let state = g.V.Volume.state in
    let held = (state c.args.vol.now).held in
    let items = c.args.image.now in
    let so = c.loop-name.invariant in
    let step = c.in_ok-former.ensures in
    record {
      text = λ told there.
          let same : (state c.loop-name.vol).held ≡ held = (so.looks told).stays.held in
          let head = option_copied c.head_at.result in
          tree_step (machine_in held items) items c.args.names.now c.loop-name.name-index _ c.loop-name.former.now c.in_ok-former.former.now head c.loop-name.out.items c.push_if_file.new.out.items _
          c.loop-name-test.true c.head_at.ensures.head step.path
          (step.text told (subst (λ (d : Map (List ℕ)). IsScanned d items) (sym same) there) ∙ ap (λ (d : Map (List ℕ)). c.loop-name.out.items ++ lines_after (machine_in d items) c.loop-name.former.now head) same)
          (so.text told there);
      looks = λ told. looks_then (state c.args.vol.now) (state c.loop-name.vol) (state c.push_if_file.new.vol) (so.looks told) (step.looks told);
      passes = then_passes (state c.args.vol.now) (state c.loop-name.vol) (state c.push_if_file.new.vol) so.passes step.passes;
    }

pub returns-clause-text : goal.returns-clause-text
returns-clause-text g c = λ told there.
    tree_done (machine_in (g.V.Volume.state c.args.vol.now).held c.args.image.now) c.args.image.now c.args.names.now c.loop-name.name-index c.loop-name.former.now c.loop-name.out.items _ c.loop-name-test.false (c.loop-name.invariant.text told there)
