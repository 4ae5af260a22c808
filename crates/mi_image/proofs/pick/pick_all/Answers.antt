use Rattle.std.proofs.Common.{Some, None, ap, sym, ◌∙◌}
use Rattle.std.proofs.lemmas.List.{append-nil}
use Rattle.mi_image.proofs.PickLemmas.{picked_step}
use Rattle.mi_image.proofs.pick.pick_all.Goals as goal
use Rattle.mi_image.proofs.pick.pick_all.Goals.{in-Some+in_ok-push, in_default}

pub loop-item-preserved : goal.loop-item-preserved
loop-item-preserved g c =
    let pick = g.P.Pick.picks c.args.pick.now in
    elim c.match-branch-2.branch [
      | in-Some+in_ok-push w ↦ picked_step pick c.args.items.now c.loop-item.item-index c.item-item.result c.in_ok-found.field-0 (Some w.in-Some.found) c.loop-item.picked.items c.match-branch-2.picked.items c.item-item.is c.loop-item-test.true c.in_ok-found.ensures w.in-Some.is c.loop-item.invariant (ap (λ v. v.items) w.picked-is ∙ w.in_ok-push.ensures.items)
      | in_default w ↦ picked_step pick c.args.items.now c.loop-item.item-index c.item-item.result c.in_ok-found.field-0 None c.loop-item.picked.items c.match-branch-2.picked.items c.item-item.is c.loop-item-test.true c.in_ok-found.ensures w.in_default.is c.loop-item.invariant (ap (λ v. v.items) w.picked-is ∙ sym (append-nil c.loop-item.picked.items))
    ]
