-- Place by place.
use Rattle.std.proofs.Common.{Some, None, ap, sym, ◌∙◌}
use Rattle.std.proofs.lemmas.List.{append-nil}
use Rattle.mi_records.specs.Removing.{guarded_place}
use Rattle.mi_records.proofs.NamedLemmas.{picked_one}
use Rattle.mi_records.proofs.clear.guarded_places.Goals as goal
use Rattle.mi_records.proofs.clear.guarded_places.Goals.{in-Some+in_ok-push, in_default}

pub loop-name-preserved : goal.loop-name-preserved
loop-name-preserved c = λ guarded guards. elim c.match-branch-2.branch [
  | in-Some+in_ok-push w ↦ picked_one (guarded_place guarded) c.args.names.now c.loop-name.name-index c.name-item.result (Some w.in-Some.place) c.loop-name.places.items c.match-branch-2.places.items c.loop-name-test.true c.name-item.is (sym w.in-Some.is ∙ c.in_ok-place.ensures guarded guards) (c.loop-name.invariant guarded guards) (ap (λ v. v.items) w.places-is ∙ w.in_ok-push.ensures.items)
  | in_default w ↦ picked_one (guarded_place guarded) c.args.names.now c.loop-name.name-index c.name-item.result None c.loop-name.places.items c.match-branch-2.places.items c.loop-name-test.true c.name-item.is (sym w.in_default.is ∙ c.in_ok-place.ensures guarded guards) (c.loop-name.invariant guarded guards) (ap (λ v. v.items) w.places-is ∙ sym (append-nil c.loop-name.places.items))
]
