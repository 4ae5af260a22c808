-- Nothing where it was present, and else one more.
use Rattle.std.proofs.Common.{◌≡◌, true, false, [], ◌∷◌, ◌++◌, cond, sym, subst}
use Rattle.std.specs.Prelude.{OnOk}
use Rattle.mi_changes.specs.Touches.{Set}
use Rattle.mi_model.specs.Parents.{key_with_parents}
use Rattle.mi_model.specs.SharedCounts.{shared_key, count_name, raised}
use Rattle.mi_steps.specs.Makes.{Makes, plan_machine}
use Rattle.mi_steps.proofs.FollowLemmas.{started}
use Rattle.mi_records.proofs.KeyLemmas.{keeps_not}
use Rattle.mi_count_steps.proofs.counts.raise_unless.Goals as goal

pub returns-then-present-clause-makes : goal.returns-then-present-clause-makes
returns-then-present-clause-makes c = λ held files.
    let path = c.args.path.now in
    let there : c.args.present ≡ true = c.if-present.true in
    subst (λ b. Makes held files c.args.plan.now c.args.plan.now (cond b [] (key_with_parents 2 shared_key ++ Set (count_name path) (raised path) ∷ []))) (sym there) (started files (plan_machine held files c.args.plan.now) c.args.plan.now.script)

pub returns-then-present-clause-keeps : goal.returns-then-present-clause-keeps
returns-then-present-clause-keeps c = keeps_not c.args.plan.now

pub returns-else-present-clause-makes : goal.returns-else-present-clause-makes
returns-else-present-clause-makes c = λ held files.
    let path = c.args.path.now in
    let not_there : c.args.present ≡ false = c.if-present.false in
    subst (λ b. OnOk c.raise.result (Makes held files c.args.plan.now c.raise.new.plan (cond b [] (key_with_parents 2 shared_key ++ Set (count_name path) (raised path) ∷ [])))) (sym not_there) (c.raise.ensures.makes held files)

pub returns-else-present-clause-keeps : goal.returns-else-present-clause-keeps
returns-else-present-clause-keeps c = c.raise.ensures.keeps
