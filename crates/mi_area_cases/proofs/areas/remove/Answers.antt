use Rattle.mi_area_cases.proofs.AreaSteps.{on_as, back_as}
use Rattle.mi_area_cases.proofs.areas.remove.Goals as goal

pub returns-in_ok-say_word-in-Ok-clause-leaves : goal.returns-in_ok-say_word-in-Ok-clause-leaves
returns-in_ok-say_word-in-Ok-clause-leaves g c =
    on_as _ _ _ c.remove.new.self c.args.noted.now c.requires.goes_on c.remove.ensures.kept c.in-Ok.ensures.working (λ told F w. (c.remove.ensures.changes told F w).works)

pub returns-in_ok-say_op_fault-in-Err-clause-leaves : goal.returns-in_ok-say_op_fault-in-Err-clause-leaves
returns-in_ok-say_op_fault-in-Err-clause-leaves g c =
    back_as _ _ _ c.remove.new.self c.args.noted.now c.requires.goes_on c.remove.ensures.live (λ told F w. (c.remove.ensures.changes told F w).works)
