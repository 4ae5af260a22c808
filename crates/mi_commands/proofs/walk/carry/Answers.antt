use Rattle.std.proofs.Common.{List, Option, Ok, sym, ap, subst, ◌∙◌}
use Rattle.std.specs.Prelude.{map}
use Rattle.std.specs.List.{All}
use Rattle.mi_script.specs.declared.rec.Rec.{Rec}
use Rattle.mi_script.specs.Scripts.{touched_names}
use Rattle.mi_undo.specs.Area.{AreOutside}
use Rattle.mi_base.specs.declared.answers.Cause.{Cause}
use Rattle.mi_source.specs.Counts.{Rose}
use Rattle.mi_runner.specs.Records.{MayCarry, HasLength}
use Rattle.mi_model.specs.Outcome.{free_room}
use Rattle.mi_model.specs.Plans.{Planned}
use Rattle.mi_model.specs.Words.{Package}
use Rattle.mi_plan.specs.declared.segment.Segment.{Segment}
use Rattle.mi_plan.specs.Made.{as_planned}
use Rattle.mi_plan.specs.Refusals.{IsWalkRefusal}
use Rattle.mi_report.specs.WalkLogs.{IsMadeFor}
use Rattle.mi_commands.specs.Answers.{IsTold}
use Rattle.mi_commands.specs.Calls.{IsCosted}
use Rattle.mi_commands.proofs.ServeLemmas.{memory_serves}
use Rattle.mi_commands.proofs.WalkLemmas.{all_kept}
use Rattle.mi_commands.proofs.walk.carry.Goals as goal

pub carry_made-requires-clause-same : goal.carry_made-requires-clause-same
carry_made-requires-clause-same g c = c.in-Ok.ensures.segments ∙ ap (λ (l : List Segment). map as_planned l) (sym c.parts_of-refusal.ensures.segments)

pub carry_made-requires-clause-few : goal.carry_made-requires-clause-few
carry_made-requires-clause-few g c = c.in-Ok.ensures.few

pub carry_made-requires-clause-outside : goal.carry_made-requires-clause-outside
carry_made-requires-clause-outside g c = all_kept (λ (rs : List Rec). AreOutside (touched_names rs)) c.args.plan.segments.items c.in-Ok.ready.segments.items c.in-Ok.ensures.segments c.requires.may_run.outside

pub carry_made-requires-clause-records : goal.carry_made-requires-clause-records
carry_made-requires-clause-records g c = all_kept (λ (rs : List Rec). All MayCarry rs) c.args.plan.segments.items c.in-Ok.ready.segments.items c.in-Ok.ensures.segments c.requires.may_run.records

pub carry_made-requires-clause-there : goal.carry_made-requires-clause-there
carry_made-requires-clause-there g c = λ told. all_kept (λ (rs : List Rec). All (HasLength (g.S.Source.files c.args.src.now)) rs) c.args.plan.segments.items c.in-Ok.ready.segments.items c.in-Ok.ensures.segments (c.requires.lengths told)

pub carry_made-requires-clause-refusal : goal.carry_made-requires-clause-refusal
carry_made-requires-clause-refusal g c = subst (λ (r : Option Cause). IsWalkRefusal r) (sym c.parts_of-refusal.ensures.refusal) c.requires.refusal

pub returns-in-Ok-clause-serves : goal.returns-in-Ok-clause-serves
returns-in-Ok-clause-serves g c recorded folder sets given out planned former =
    let s = g.V.Volume.state c.args.vol.now in
    let files = g.S.Source.files c.args.src.now in
    let names = c.args.plan.begun.items in
    let free = free_room s.capacity s.held in
    c.carry_made.ensures.serves recorded folder sets given out names
    (subst (λ (r : Option Cause). IsMadeFor c.args.settled names r c.in-Ok.ready.log) (sym c.parts_of-refusal.ensures.refusal) c.in-Ok.ensures.log)
    c.in-Ok.ensures.begun
    (λ v told.
    subst (λ (r : Option Cause). IsCosted files free given out names c.in-Ok.ready.segments.items r) (sym c.parts_of-refusal.ensures.refusal)
    (subst (λ (l : List Planned). IsCosted files free given out names l c.args.plan.refusal) (sym c.in-Ok.ensures.segments) (planned v told)))
    former

pub returns-in-Err-clause-serves : goal.returns-in-Err-clause-serves
returns-in-Err-clause-serves g c recorded folder sets given out planned former =
    let command = Package recorded folder sets in
    memory_serves g.V.Volume.told (IsTold g.V.Volume.told g.S.Source.told (Ok command)) (g.V.Volume.state c.args.vol.now) out command c.args.settled (Rose (g.S.Source.faults c.args.src.now) (g.S.Source.faults c.args.src.now)) c.requires.free c.out_of_memory.result c.out_of_memory.ensures.wants c.out_of_memory.ensures.reached
