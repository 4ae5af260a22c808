-- From the first row on.
use Rattle.std.proofs.Common.{map, Option, sym, ap, ◌∙◌, subst}
use Rattle.std.specs.Prelude.{Vec}
use Rattle.std.specs.declared.alloc.Global.{Global}
use Rattle.mi_base.specs.declared.answers.Cause.{Cause}
use Rattle.mi_plan.specs.declared.segment.Segment.{Segment}
use Rattle.mi_plan.specs.Lengths.{SegmentsHave}
use Rattle.mi_plan.specs.Refusals.{IsWalkRefusal}
use Rattle.mi_schema.specs.Laws.{KeysStand, KeysApart}
use Rattle.mi_image.specs.Overlays.{former_items}
use Rattle.mi_model.specs.Walk.{walk}
use Rattle.mi_plan.specs.Made.{as_planned}
use Rattle.mi_plan.proofs.StartLemmas.{ready_at_start, so_far_at_start, lengths_at_start, plan_so}
use Rattle.mi_plan.proofs.planning.planned.Goals as goal

pub walk_on-requires : goal.walk_on-requires
walk_on-requires g c =
    let w = c.args.world in
    ready_at_start (record { world = w; begun = c.new-begun.result; segments = c.new-segments.result }) c.start-path.result c.requires.fresh c.new-begun.ensures.items c.start-path.ensures.stands
    (c.start-path.ensures.rows w.seen.loaded ∙ c.requires.order) (subst KeysStand c.package.ensures c.keys_stand.ensures) (subst KeysApart c.package-2.ensures c.keys_apart.ensures)

pub returns-in-Ok-clause-plan : goal.returns-in-Ok-clause-plan
returns-in-Ok-clause-plan g c = λ x v s start there.
    let w = c.args.world in
    plan_so (g.S.Source.files c.args.src.now) (walk x) c.plan_of.result c.walk_on.new.work c.in-Ok.refusal c.plan_of.ensures.begun c.plan_of.ensures.segments c.plan_of.ensures.refusal
    (c.in-Ok.ensures.planned x v s there
    (so_far_at_start (g.V.Volume.state c.args.vol.now).held (g.S.Source.files c.args.src.now) x (record { world = w; begun = c.new-begun.result; segments = c.new-segments.result }) c.start-path.result start c.new-begun.ensures.items (ap (map as_planned) c.new-segments.ensures.items) (c.start-path.ensures.rows w.seen.loaded ∙ c.requires.order)))

pub returns-in-Ok-clause-former : goal.returns-in-Ok-clause-former
returns-in-Ok-clause-former g c = ap former_items c.plan_of.ensures.overlay ∙ c.in-Ok.ensures.former

pub returns-in-Ok-clause-lengths : goal.returns-in-Ok-clause-lengths
returns-in-Ok-clause-lengths g c = λ s.
    let w = c.args.world in
    let files = g.S.Source.files c.args.src.now in
    subst (λ (v : Vec Segment Global). SegmentsHave files v.items) (sym c.plan_of.ensures.segments)
    (c.in-Ok.ensures.lengths s (lengths_at_start files (record { world = w; begun = c.new-begun.result; segments = c.new-segments.result }) c.requires.fresh.script c.new-segments.ensures.items))

pub returns-in-Ok-clause-refusal : goal.returns-in-Ok-clause-refusal
returns-in-Ok-clause-refusal g c = subst (λ (o : Option Cause). IsWalkRefusal o) (sym c.plan_of.ensures.refusal) c.in-Ok.ensures.refusal
