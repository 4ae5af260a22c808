use Rattle.std.proofs.Common.{List, ℕ, ◌++◌, sym, ap, ◌∙◌, arith}
use Rattle.mi_undo.specs.Names.{most_entries}
use Rattle.mi_area_cases.proofs.AreaSteps.{on_noted, back_by}
use Rattle.mi_area_cases.proofs.areas.note.Goals as goal

pub note-requires-clause-few : goal.note-requires-clause-few
unfolding most_entries
note-requires-clause-few g c = omega (arith, c.requires.few)

pub returns-in_ok-say_word-in-Ok-clause-leaves : goal.returns-in_ok-say_word-in-Ok-clause-leaves
returns-in_ok-say_word-in-Ok-clause-leaves g c =
    on_noted _ _ _ c.note.new.self c.args.noted.now.items c.requires.goes_on c.as_slice.result.now c.append.new.self.items c.in-Ok.ensures.working c.in-Ok.ensures.names
    (c.in_ok-append-in-Ok.ensures.items ∙ ap (λ (l : List (List ℕ)). c.args.noted.now.items ++ l) (sym c.as_slice.ensures.value))
    (λ told F w. (c.in-Ok.ensures.notes told F w).works)

pub returns-in_ok-say_op_fault-in-Err-clause-leaves : goal.returns-in_ok-say_op_fault-in-Err-clause-leaves
returns-in_ok-say_op_fault-in-Err-clause-leaves g c =
    back_by _ _ _ c.note.new.self c.args.noted.now.items c.requires.goes_on c.note.ensures.live (λ told F w. (c.note.ensures.notes told F w).can_go_back)
