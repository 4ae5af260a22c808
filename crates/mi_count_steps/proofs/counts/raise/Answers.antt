-- The keys, then the count.
use Rattle.std.proofs.Common.{refl, [], ◌∷◌}
use Rattle.mi_base.specs.Limits.{is_key}
use Rattle.mi_changes.specs.Touches.{Set}
use Rattle.mi_model.specs.Parents.{key_with_parents}
use Rattle.mi_model.specs.SharedCounts.{shared_key, count_name, raised}
use Rattle.mi_steps.specs.Makes.{plan_machine}
use Rattle.mi_steps.proofs.FollowLemmas.{joined}
use Rattle.mi_records.proofs.KeyLemmas.{if_ok, keeps_on}
use Rattle.mi_count_steps.proofs.counts.raise.Goals as goal

pub make_keys-requires-clause-key : goal.make_keys-requires-clause-key
unfolding is_key
make_keys-requires-clause-key c = refl

pub returns-in-Ok-clause-makes : goal.returns-in-Ok-clause-makes
returns-in-Ok-clause-makes c = λ held files.
    let path = c.args.path.now in
    if_ok c.raise_count.result (c.raise_count.ensures.makes held files)
    (joined files (plan_machine held files c.args.plan.now) (plan_machine held files c.make_keys.new.plan) (plan_machine held files c.raise_count.new.plan) c.args.plan.now.script c.make_keys.new.plan.script c.raise_count.new.plan.script
    (key_with_parents 2 shared_key) (Set (count_name path) (raised path) ∷ []) (c.in-Ok.ensures.makes held files))

pub returns-in-Ok-clause-keeps : goal.returns-in-Ok-clause-keeps
returns-in-Ok-clause-keeps c = keeps_on c.args.plan.now c.make_keys.new.plan c.raise_count.new.plan c.in-Ok.ensures.keeps c.raise_count.ensures.keeps
