-- To drop what goes, name by name, is to clear it.
use Rattle.std.proofs.Common.{◌≡◌, List, ℕ, map, subst}
use Rattle.std.specs.Prelude.{filter}
use Rattle.std.specs.FinMap.{keys}
use Rattle.mi_image.specs.Items.{Items, machine_over}
use Rattle.mi_steps.specs.Follows.{Follows, drop_touch}
use Rattle.mi_steps.specs.Makes.{plan_machine}
use Rattle.mi_steps.proofs.FollowLemmas.{cleared}
use Rattle.mi_files.specs.Taking.{takes}
use Rattle.mi_files.proofs.matching.take_matching.Goals as goal

pub returns-clause-makes : goal.returns-clause-makes
returns-clause-makes c = λ guarded held files guards.
    let t = c.args.taking in
    let passes = takes guarded t.local t.folder.now t.pattern.now in
    let m = plan_machine held files c.args.plan.now in
    let n = plan_machine held files c.drop_names.new.self in
    cleared files m n c.args.plan.now.script c.drop_names.new.self.script passes c.in_ok-names.names.items
    (subst (λ (items : Items). c.in_ok-names.names.items ≡ filter passes (keys (machine_over held files items))) c.image.ensures (c.in_ok-names.ensures guarded held files guards))
    (subst (λ (names : List (List ℕ)). Follows files m n c.args.plan.now.script c.drop_names.new.self.script (map drop_touch names)) c.as_slice.ensures.value (c.in_ok-drop_names.ensures.makes held files))
