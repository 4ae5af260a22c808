use Rattle.std.proofs.Common.{Some, None, List, ℕ, ap, sym, ◌∙◌}
use Rattle.std.proofs.lemmas.List.{append-nil}
use Rattle.mi_steps.specs.Trees.{seat_in, keeps}
use Rattle.mi_steps.proofs.StepLemmas.{picked_at}
use Rattle.mi_steps.proofs.prune.all_keeping.Goals as goal
use Rattle.mi_steps.proofs.prune.all_keeping.Goals.{in-Some+in_ok-push, in_default}

pub loop-name-preserved : goal.loop-name-preserved
loop-name-preserved c =
    let pick = λ (q : List ℕ). keeps c.args.touched.now (seat_in c.args.tree q) in
    elim c.match-branch-2.branch [
      | in-Some+in_ok-push w ↦ picked_at pick c.args.names.now c.loop-name.name-index _ c.in_ok-place.field-0 (Some w.in-Some.place) c.loop-name.places.items c.match-branch-2.places.items c.loop-name-test.true c.in_ok-place.ensures w.in-Some.is c.loop-name.invariant (ap (λ v. v.items) w.places-is ∙ w.in_ok-push.ensures.items)
      | in_default w ↦ picked_at pick c.args.names.now c.loop-name.name-index _ c.in_ok-place.field-0 None c.loop-name.places.items c.match-branch-2.places.items c.loop-name-test.true c.in_ok-place.ensures w.in_default.is c.loop-name.invariant (ap (λ v. v.items) w.places-is ∙ sym (append-nil c.loop-name.places.items))
    ]
