use Rattle.std.proofs.Common.{Err, ap, ◌∙◌}
use Rattle.mi_area_cases.proofs.AreaSteps.{back_by}
use Rattle.mi_area_cases.proofs.areas.commit.Goals as goal

pub returns-in_ok-say_word-in-Err-Before-clause-leaves : goal.returns-in_ok-say_word-in-Err-Before-clause-leaves
returns-in_ok-say_word-in-Err-Before-clause-leaves g c =
    let is = c.in-Err-Before.is ∙ ap Err c.in-Err-Before.field-0-is in
    back_by _ _ _ c.commit.new.self c.args.noted.now c.requires.goes_on (c.commit.ensures.before_live is) (λ told F w. (c.commit.ensures.commits told F w).before is)

pub returns-in_ok-say_word-in-Err-Undoable-clause-leaves : goal.returns-in_ok-say_word-in-Err-Undoable-clause-leaves
returns-in_ok-say_word-in-Err-Undoable-clause-leaves g c =
    let is = c.in-Err-Undoable.is ∙ ap Err c.in-Err-Undoable.field-0-is in
    back_by _ _ _ c.commit.new.self c.args.noted.now c.requires.goes_on (c.commit.ensures.undoable_live is) (λ told F w. (c.commit.ensures.commits told F w).undoable is)
