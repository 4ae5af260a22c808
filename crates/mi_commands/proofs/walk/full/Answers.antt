use Rattle.std.proofs.Common.{refl}
use Rattle.mi_commands.specs.Replies.{log_in}
use Rattle.mi_commands.proofs.WalkLemmas.{report_as}
use Rattle.mi_commands.proofs.walk.full.Goals as goal

pub returns-clause-log : goal.returns-clause-log
returns-clause-log c settled names refusal made =
    report_as settled names c.refused_late.result.kind c.refused_late.result.kind _ c.refused_late.result.reached (log_in c.refused_late.result) refl c.refused_late.ensures.reached (c.refused_late.ensures.log settled names refusal made)
