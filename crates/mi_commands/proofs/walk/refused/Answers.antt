use Rattle.std.proofs.Common.{refl, sym, ◌∙◌}
use Rattle.mi_base.specs.declared.answers.Kind.TheVariants.{Refused}
use Rattle.mi_commands.specs.Replies.{log_in}
use Rattle.mi_commands.proofs.WalkLemmas.{not_sized, report_as}
use Rattle.mi_commands.proofs.walk.refused.Goals as goal

pub returns-then-is_sized-clause-log : goal.returns-then-is_sized-clause-log
returns-then-is_sized-clause-log c settled names refusal made may = c.refused_late.ensures.log settled names refusal made

pub returns-clause-log : goal.returns-clause-log
returns-clause-log c settled names refusal made may =
    report_as settled names (Refused c.args.cause) c.closed.result.kind c.args.reached c.args.reached (log_in c.closed.result) c.closed.ensures.kind refl
    (c.closed.ensures.log settled names refusal made (not_sized refusal c.args.cause (sym c.is_sized.ensures ∙ c.if-is_sized.false) may))
