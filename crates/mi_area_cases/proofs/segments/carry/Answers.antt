use Rattle.std.proofs.Common.{List, ℕ, ◌++◌, sym, ap, subst, ◌∙◌, arith}
use Rattle.std.specs.List.{All}
use Rattle.mi_undo.specs.Names.{most_entries}
use Rattle.mi_undo.specs.Area.{AreOutside}
use Rattle.mi_script.specs.Scripts.{touched_names}
use Rattle.mi_runner.specs.Records.{MayCarry}
use Rattle.mi_area_cases.proofs.AreaSteps.{on_noted, back_by}
use Rattle.mi_area_cases.proofs.segments.carry.Goals as goal

pub segment-requires-clause-few : goal.segment-requires-clause-few
unfolding most_entries
segment-requires-clause-few g c = omega (arith, c.requires.few)

pub segment-requires-clause-outside : goal.segment-requires-clause-outside
segment-requires-clause-outside g c = subst AreOutside (c.as_slice.ensures.value ∙ c.in_ok-names.ensures) c.in_ok-check_outside.ensures

pub segment-requires-clause-records : goal.segment-requires-clause-records
segment-requires-clause-records g c = subst (All MayCarry) c.recs.ensures c.in_ok-check_records.ensures

pub segment-requires-clause-there : goal.segment-requires-clause-there
segment-requires-clause-there g c = λ told. absurd told

pub returns-in_ok-say_word-in-Ok-clause-leaves : goal.returns-in_ok-say_word-in-Ok-clause-leaves
returns-in_ok-say_word-in-Ok-clause-leaves g c =
    on_noted _ _ _ c.segment.new.area c.args.noted.now.items c.requires.goes_on (touched_names c.args.script.now) c.append.new.self.items c.in-Ok.ensures.working c.in-Ok.ensures.noted
    (c.in_ok-append-in-Ok.ensures.items ∙ ap (λ (l : List (List ℕ)). c.args.noted.now.items ++ l) c.in_ok-names.ensures)
    (λ told F w. (c.in-Ok.ensures.carries told F w).works)

pub returns-in_ok-say_run_fault-in-Err-clause-leaves : goal.returns-in_ok-say_run_fault-in-Err-clause-leaves
returns-in_ok-say_run_fault-in-Err-clause-leaves g c =
    back_by _ _ _ c.segment.new.area c.args.noted.now.items c.requires.goes_on c.segment.ensures.live (λ told F w. (c.segment.ensures.carries told F w).can_go_back)
