-- What is guarded stays.
use Rattle.std.proofs.Common.{sym, ◌∙◌}
use Rattle.mi_steps.specs.Makes.{plan_machine}
use Rattle.mi_records.proofs.KeyLemmas.{if_ok, keeps_not}
use Rattle.mi_count_steps.proofs.CountLemmas.{taken, not_taken}
use Rattle.mi_count_steps.proofs.counts.take_at.Goals as goal

pub returns-then-guarded-clause-makes : goal.returns-then-guarded-clause-makes
returns-then-guarded-clause-makes c = λ guarded held files guards.
    not_taken guarded c.args.guards.now c.args.name.now files (plan_machine held files c.args.plan.now) c.args.plan.now.script guards (sym c.contains-guarded.ensures ∙ c.if-guarded.true)

pub returns-then-guarded-clause-keeps : goal.returns-then-guarded-clause-keeps
returns-then-guarded-clause-keeps c = keeps_not c.args.plan.now

pub returns-else-guarded-clause-makes : goal.returns-else-guarded-clause-makes
returns-else-guarded-clause-makes c = λ guarded held files guards.
    if_ok c.drop_name.result (c.drop_name.ensures.makes held files) (λ made.
    taken guarded c.args.guards.now c.args.name.now files (plan_machine held files c.args.plan.now) (plan_machine held files c.drop_name.new.self) c.args.plan.now.script c.drop_name.new.self.script guards (sym c.contains-guarded.ensures ∙ c.if-guarded.false) made)

pub returns-else-guarded-clause-keeps : goal.returns-else-guarded-clause-keeps
returns-else-guarded-clause-keeps c = record {
  there = c.drop_name.ensures.there;
  former = c.drop_name.ensures.former;
  grows = c.drop_name.ensures.grows;
}
