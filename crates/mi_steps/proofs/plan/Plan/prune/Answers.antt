use Rattle.std.proofs.Common.{◌≡◌, List, ℕ, map, filter, subst, ◌∙◌}
use Rattle.std.specs.FinMap.{keys}
use Rattle.mi_image.specs.Items.{Items, machine_over}
use Rattle.mi_model.specs.Prune.{goes}
use Rattle.mi_steps.specs.Trees.{seat_in}
use Rattle.mi_steps.specs.Follows.{Follows, drop_touch}
use Rattle.mi_steps.specs.Makes.{plan_machine}
use Rattle.mi_steps.proofs.FollowLemmas.{cleared}
use Rattle.mi_steps.proofs.PruneLemmas.{goes_in_order, none_there, untouched}
use Rattle.mi_steps.proofs.plan.Plan.prune.Goals as goal

-- where nothing was touched, nothing goes
pub returns-then-is_empty-clause-makes : goal.returns-then-is_empty-clause-makes
returns-then-is_empty-clause-makes c = λ held files.
    untouched files (plan_machine held files c.args.self.now) c.args.self.now.script (seat_in c.args.tree) c.args.touched.items c.args.protected.items
    (none_there c.args.touched.items c.args.touched.len c.is_empty.result c.args.touched.ok.0 c.is_empty.ensures c.if-is_empty.true)

pub returns-clause-makes : goal.returns-clause-makes
returns-clause-makes c = λ held files.
    let m = plan_machine held files c.args.self.now in
    let n = plan_machine held files c.drop_names.new.self in
    cleared files m n c.args.self.now.script c.drop_names.new.self.script (goes (seat_in c.args.tree) (keys m) c.args.touched.items c.args.protected.items) c.in_ok-gone.gone.items
    (subst (λ (items : Items). c.in_ok-gone.gone.items ≡ filter (goes (seat_in c.args.tree) (keys (machine_over held files items)) c.of-touched.result c.of-protected.result) (keys (machine_over held files items))) c.image.ensures (c.in_ok-gone.ensures held files)
    ∙ goes_in_order (seat_in c.args.tree) (keys m) c.args.touched.items c.args.protected.items c.of-touched.result c.of-protected.result c.of-touched.ensures c.of-protected.ensures)
    (subst (λ (names : List (List ℕ)). Follows files m n c.args.self.now.script c.drop_names.new.self.script (map drop_touch names)) c.as_slice.ensures.value (c.in_ok-drop_names.ensures.makes held files))
