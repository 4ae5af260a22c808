use Rattle.std.proofs.Common.{refl, subst}
use Rattle.mi_base.specs.declared.answers.Kind.{Kind}
use Rattle.mi_commands.specs.Replies.{log_in}
use Rattle.mi_commands.specs.Walks.{MayClose}
use Rattle.mi_commands.proofs.WalkLemmas.{report_as}
use Rattle.mi_commands.proofs.walk.answered.Goals as goal

pub returns-in-Done-clause-log : goal.returns-in-Done-clause-log
returns-in-Done-clause-log c settled names refusal made may = report_as settled names _ c.closed.result.kind _ c.closed.result.reached (log_in c.closed.result) c.closed.ensures.kind c.closed.ensures.reached (c.closed.ensures.log settled names refusal made tt)

pub returns-in-Refused-clause-log : goal.returns-in-Refused-clause-log
returns-in-Refused-clause-log c settled names refusal made may =
    report_as settled names c.refused.result.kind c.refused.result.kind _ c.refused.result.reached (log_in c.refused.result) refl c.refused.ensures.reached
    (c.refused.ensures.log settled names refusal made (subst (λ (k : Kind). MayClose refusal k) c.in-Refused.is may))

pub returns-in-Suspended-clause-log : goal.returns-in-Suspended-clause-log
returns-in-Suspended-clause-log c settled names refusal made may = report_as settled names _ c.closed-in-Suspended.result.kind _ c.closed-in-Suspended.result.reached (log_in c.closed-in-Suspended.result) c.closed-in-Suspended.ensures.kind c.closed-in-Suspended.ensures.reached (c.closed-in-Suspended.ensures.log settled names refusal made tt)

pub returns-in-NoMemory-clause-log : goal.returns-in-NoMemory-clause-log
returns-in-NoMemory-clause-log c settled names refusal made may = report_as settled names _ c.closed-in-NoMemory.result.kind _ c.closed-in-NoMemory.result.reached (log_in c.closed-in-NoMemory.result) c.closed-in-NoMemory.ensures.kind c.closed-in-NoMemory.ensures.reached (c.closed-in-NoMemory.ensures.log settled names refusal made tt)
