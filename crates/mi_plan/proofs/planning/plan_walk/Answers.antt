-- What the walk gives, and that its segments may be carried out.
use Rattle.std.specs.List.{All}
use Rattle.mi_script.specs.Scripts.{touched_names}
use Rattle.mi_undo.specs.Area.{AreOutside}
use Rattle.mi_runner.specs.Records.{MayCarry}
use Rattle.mi_plan.specs.declared.planned.WalkPlan.{WalkPlan}
use Rattle.mi_plan.specs.declared.segment.Segment.{Segment}
use Rattle.mi_plan.specs.Carried.{SegmentsCarry}
use Rattle.mi_plan.proofs.CarriedLemmas.{segments_carry, segments_outside}
use Rattle.mi_plan.proofs.TurnLemmas.{ok_map}
use Rattle.mi_plan.proofs.planning.plan_walk.Goals as goal

pub returns-clause-outside : goal.returns-clause-outside
returns-clause-outside g c =
    ok_map (λ (p : WalkPlan). SegmentsCarry p.segments.items) (λ (p : WalkPlan). All (λ (s : Segment). AreOutside (touched_names s.script)) p.segments.items) c.walked.result
    (λ p is. segments_outside p.segments.items is) c.walked.ensures.carried

pub returns-clause-records : goal.returns-clause-records
returns-clause-records g c =
    ok_map (λ (p : WalkPlan). SegmentsCarry p.segments.items) (λ (p : WalkPlan). All (λ (s : Segment). All MayCarry s.script) p.segments.items) c.walked.result
    (λ p is. segments_carry p.segments.items is) c.walked.ensures.carried
