-- What goes is dropped, the keys first.
use Rattle.std.proofs.Common.{◌≡◌, List, ℕ, ◌++◌, map, sym, subst}
use Rattle.std.specs.Prelude.{filter}
use Rattle.std.specs.FinMap.{keys}
use Rattle.std.proofs.lemmas.List.{map-append}
use Rattle.mi_image.specs.Items.{Items, machine_over}
use Rattle.mi_model.specs.RegistryGuards.{goes_with_key, place_of_key}
use Rattle.mi_steps.specs.Follows.{Follows, drop_touch}
use Rattle.mi_steps.specs.Makes.{plan_machine}
use Rattle.mi_steps.proofs.FollowLemmas.{cleared, joined}
use Rattle.mi_records.proofs.KeyLemmas.{keeps_on}
use Rattle.mi_records.proofs.clear.clear_key.Goals as goal

pub returns-clause-makes : goal.returns-clause-makes
returns-clause-makes c = λ guarded held files guards.
    let key = place_of_key c.args.place.now in
    let m = plan_machine held files c.args.plan.now in
    let n = plan_machine held files c.drop_names.new.self in
    let o = plan_machine held files c.drop_names-2.new.self in
    let first = c.in_ok-gone.gone.keys.items in
    let second = c.in_ok-gone.gone.values.items in
    let h = c.args.plan.now.script in
    let i = c.drop_names.new.self.script in
    let j = c.drop_names-2.new.self.script in
    let one : Follows files m n h i (map drop_touch first) = subst (λ (names : List (List ℕ)). Follows files m n h i (map drop_touch names)) c.as_slice.ensures.value (c.in_ok-drop_names.ensures.makes held files) in
    let two : Follows files n o i j (map drop_touch second) = subst (λ (names : List (List ℕ)). Follows files n o i j (map drop_touch names)) c.as_slice-2.ensures.value (c.in_ok-drop_names-2.ensures.makes held files) in
    cleared files m o h j (goes_with_key guarded (keys m) key) (first ++ second)
    (subst (λ (items : Items). first ++ second ≡ filter (goes_with_key guarded (keys (machine_over held files items)) key) (keys (machine_over held files items))) c.image.ensures (c.in_ok-gone.ensures guarded held files guards))
    (subst (λ ts. Follows files m o h j ts) (sym (map-append drop_touch first second)) (joined files m n o h i j (map drop_touch first) (map drop_touch second) one two))

pub returns-clause-keeps : goal.returns-clause-keeps
returns-clause-keeps c = keeps_on c.args.plan.now c.drop_names.new.self c.drop_names-2.new.self
    (record { there = c.drop_names.ensures.there; former = c.drop_names.ensures.former; grows = c.drop_names.ensures.grows })
    (record { there = c.drop_names-2.ensures.there; former = c.drop_names-2.ensures.former; grows = c.drop_names-2.ensures.grows })

pub returns-in_err-drop_names-2-clause-keeps : goal.returns-in_err-drop_names-2-clause-keeps
returns-in_err-drop_names-2-clause-keeps c = keeps_on c.args.plan.now c.drop_names.new.self c.drop_names-2.new.self
    (record { there = c.drop_names.ensures.there; former = c.drop_names.ensures.former; grows = c.drop_names.ensures.grows })
    (record { there = c.drop_names-2.ensures.there; former = c.drop_names-2.ensures.former; grows = c.drop_names-2.ensures.grows })
