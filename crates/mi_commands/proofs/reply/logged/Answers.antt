use Rattle.std.proofs.Common.{inl, inr, ◌∙◌}
use Rattle.mi_commands.proofs.reply.logged.Goals as goal

pub returns-in-Ok : goal.returns-in-Ok
returns-in-Ok c = record { answers = inl (c.told.ensures.kind ∙ c.kind_of.ensures, c.told.ensures.log ∙ c.in-Ok.ensures); reached = c.told.ensures.reached }

pub returns-in-Err : goal.returns-in-Err
returns-in-Err c = record { answers = inr c.out_of_memory.ensures.wants; reached = c.out_of_memory.ensures.reached }
