-- The next step, taken, or the end of the walk.
use Rattle.std.proofs.Common.{◌≡◌, ◌<◌, length, ap, subst}
use Rattle.std.specs.Prelude.{List, map, Vec, Err}
use Rattle.std.specs.declared.alloc.Global.{Global}
use Rattle.mi_text.specs.Maps.{Name}
use Rattle.mi_volume.specs.State as volume
use Rattle.mi_source.specs.Counts.{Rose}
use Rattle.mi_schema.specs.declared.package.Package.{Package}
use Rattle.mi_schema.specs.Laws.{KeysStand, ReferencesStand}
use Rattle.mi_image.specs.Overlays.{former_items}
use Rattle.mi_seq.specs.Walks as seq
use Rattle.mi_seq.specs.Walks.{IsRefused}
use Rattle.mi_world.specs.Seen.{seen_lookups}
use Rattle.mi_world.specs.declared.world.World.{World}
use Rattle.mi_plan.specs.declared.segment.Segment.{Segment}
use Rattle.mi_plan.specs.declared.turn.Turn.TheVariants.{Went}
use Rattle.mi_plan.specs.Lengths.{HaveLengths}
use Rattle.mi_plan.specs.Made.{as_planned}
use Rattle.mi_plan.specs.Refusals.{EndsRight}
use Rattle.mi_plan.specs.Stages.{IsReady, IsStepped, IsRefusedBy}
use Rattle.mi_plan.specs.Turns.{IsTurned}
use Rattle.mi_plan.proofs.TurnLemmas.{may_take, stepped_turned, stepped_lengths, stepped_ends, stepped_ready, stepped_shorter, stepped_former, refused_result, refused_ends, refused_lengths, refused_right, ok_map, ok_on}
use Rattle.mi_plan.proofs.DeviceLemmas.{asks_none, fails_not}
use Rattle.mi_plan.proofs.planning.turn.Goals as goal

pub step_on-requires-clause-may : goal.step_on-requires-clause-may
step_on-requires-clause-may g c =
    let k = c.args.work.now in
    may_take k c.args.path.now c.next.new.self c.requires c.in-Ok.step (subst KeysStand c.package.ensures c.keys_stand.ensures) (subst ReferencesStand c.package-2.ensures c.references_stand.ensures)
    (subst (λ (p : Package). seq.Steps p (seen_lookups k.world.seen) k.begun.items c.args.path.now c.next.new.self c.in-Ok.step) c.package-3.ensures (c.in-Ok.ensures.steps k.begun.items c.requires.stands))

pub returns-in-Ok-clause-turned : goal.returns-in-Ok-clause-turned
returns-in-Ok-clause-turned g c = λ x v s there so.
    let k = c.args.work.now in
    ok_map (IsStepped g.V.Volume.told g.S.Source.told (g.V.Volume.state c.args.vol.now).held (g.S.Source.files c.args.src.now) c.args.folder.now c.in-Ok.step k c.step_on.new.work) (IsTurned (g.V.Volume.state c.args.vol.now).held (g.S.Source.files c.args.src.now) x c.step_on.new.work c.next.new.self) c.step_on.result (λ t d.
    stepped_turned k c.args.path.now c.next.new.self c.requires g.V.Volume.told g.S.Source.told (g.V.Volume.state c.args.vol.now).held (g.S.Source.files c.args.src.now) c.args.folder.now c.step_on.new.work c.in-Ok.step t
    (subst (λ (p : Package). seq.Steps p (seen_lookups k.world.seen) k.begun.items c.args.path.now c.next.new.self c.in-Ok.step) c.package-3.ensures (c.in-Ok.ensures.steps k.begun.items c.requires.stands)) d v s x there so)
    c.step_on.ensures.steps

pub returns-in-Ok-clause-lengths : goal.returns-in-Ok-clause-lengths
returns-in-Ok-clause-lengths g c = λ s have.
    let k = c.args.work.now in
    ok_map (IsStepped g.V.Volume.told g.S.Source.told (g.V.Volume.state c.args.vol.now).held (g.S.Source.files c.args.src.now) c.args.folder.now c.in-Ok.step k c.step_on.new.work) (HaveLengths (g.S.Source.files c.args.src.now) c.step_on.new.work) c.step_on.result (λ t d.
    stepped_lengths k c.args.path.now c.next.new.self c.requires g.V.Volume.told g.S.Source.told (g.V.Volume.state c.args.vol.now).held (g.S.Source.files c.args.src.now) c.args.folder.now c.step_on.new.work c.in-Ok.step t
    (subst (λ (p : Package). seq.Steps p (seen_lookups k.world.seen) k.begun.items c.args.path.now c.next.new.self c.in-Ok.step) c.package-3.ensures (c.in-Ok.ensures.steps k.begun.items c.requires.stands)) d s have)
    c.step_on.ensures.steps

pub returns-in-Ok-clause-ends : goal.returns-in-Ok-clause-ends
returns-in-Ok-clause-ends g c =
    let k = c.args.work.now in
    ok_map (IsStepped g.V.Volume.told g.S.Source.told (g.V.Volume.state c.args.vol.now).held (g.S.Source.files c.args.src.now) c.args.folder.now c.in-Ok.step k c.step_on.new.work) EndsRight c.step_on.result (λ t d.
    stepped_ends k c.args.path.now c.next.new.self c.requires g.V.Volume.told g.S.Source.told (g.V.Volume.state c.args.vol.now).held (g.S.Source.files c.args.src.now) c.args.folder.now c.step_on.new.work c.in-Ok.step t
    (subst (λ (p : Package). seq.Steps p (seen_lookups k.world.seen) k.begun.items c.args.path.now c.next.new.self c.in-Ok.step) c.package-3.ensures (c.in-Ok.ensures.steps k.begun.items c.requires.stands)) d)
    c.step_on.ensures.steps

pub returns-in-Ok-clause-ready : goal.returns-in-Ok-clause-ready
returns-in-Ok-clause-ready g c =
    let k = c.args.work.now in
    ok_map (IsStepped g.V.Volume.told g.S.Source.told (g.V.Volume.state c.args.vol.now).held (g.S.Source.files c.args.src.now) c.args.folder.now c.in-Ok.step k c.step_on.new.work) (λ t. t ≡ Went → IsReady c.step_on.new.work c.next.new.self) c.step_on.result (λ t d.
    stepped_ready k c.args.path.now c.next.new.self c.requires g.V.Volume.told g.S.Source.told (g.V.Volume.state c.args.vol.now).held (g.S.Source.files c.args.src.now) c.args.folder.now c.step_on.new.work c.in-Ok.step t
    (subst (λ (p : Package). seq.Steps p (seen_lookups k.world.seen) k.begun.items c.args.path.now c.next.new.self c.in-Ok.step) c.package-3.ensures (c.in-Ok.ensures.steps k.begun.items c.requires.stands)) d)
    c.step_on.ensures.steps

pub returns-in-Ok-clause-shorter : goal.returns-in-Ok-clause-shorter
returns-in-Ok-clause-shorter g c =
    let k = c.args.work.now in
    ok_map (IsStepped g.V.Volume.told g.S.Source.told (g.V.Volume.state c.args.vol.now).held (g.S.Source.files c.args.src.now) c.args.folder.now c.in-Ok.step k c.step_on.new.work) (λ t. t ≡ Went → length (seq.rest c.step_on.new.work.world.seen.loaded c.next.new.self) < length (seq.rest k.world.seen.loaded c.args.path.now)) c.step_on.result (λ t d.
    stepped_shorter k c.args.path.now c.next.new.self c.requires g.V.Volume.told g.S.Source.told (g.V.Volume.state c.args.vol.now).held (g.S.Source.files c.args.src.now) c.args.folder.now c.step_on.new.work c.in-Ok.step t
    (subst (λ (p : Package). seq.Steps p (seen_lookups k.world.seen) k.begun.items c.args.path.now c.next.new.self c.in-Ok.step) c.package-3.ensures (c.in-Ok.ensures.steps k.begun.items c.requires.stands)) d)
    c.step_on.ensures.steps

pub returns-in-Ok-clause-former : goal.returns-in-Ok-clause-former
returns-in-Ok-clause-former g c =
    let k = c.args.work.now in
    ok_on (IsStepped g.V.Volume.told g.S.Source.told (g.V.Volume.state c.args.vol.now).held (g.S.Source.files c.args.src.now) c.args.folder.now c.in-Ok.step k c.step_on.new.work) c.step_on.result (λ t d.
    stepped_former k c.args.path.now c.next.new.self c.requires g.V.Volume.told g.S.Source.told (g.V.Volume.state c.args.vol.now).held (g.S.Source.files c.args.src.now) c.args.folder.now c.step_on.new.work c.in-Ok.step t
    (subst (λ (p : Package). seq.Steps p (seen_lookups k.world.seen) k.begun.items c.args.path.now c.next.new.self c.in-Ok.step) c.package-3.ensures (c.in-Ok.ensures.steps k.begun.items c.requires.stands)) d)
    c.step_on.ensures.steps

pub returns-in-Err-clause-turned : goal.returns-in-Err-clause-turned
returns-in-Err-clause-turned g c = λ x v s there so.
    let k = c.args.work.now in
    refused_result k c.args.path.now c.next.new.self c.requires c.refuse.new.work c.in-Err.error c.refuse.result
    (subst (λ (p : Package). seq.IfRefused (Err c.in-Err.error) (λ action fault. (begun : List Name) → seq.Stands c.args.path.now begun → IsRefused p (seen_lookups k.world.seen) begun c.args.path.now action fault)) c.package-3.ensures c.in-Err.ensures.refused)
    c.refuse.ensures.refused (ap (λ (s : Vec Segment Global). map as_planned s.items) c.refuse.ensures.segments) c.refuse.ensures.begun (g.V.Volume.state c.args.vol.now).held (g.S.Source.files c.args.src.now) x so

pub returns-in-Err-clause-lengths : goal.returns-in-Err-clause-lengths
returns-in-Err-clause-lengths g c = λ s have. refused_lengths (g.S.Source.files c.args.src.now) c.args.work.now c.refuse.new.work c.in-Err.error c.refuse.result c.refuse.ensures.refused c.refuse.ensures.segments have

pub returns-in-Err-clause-ends : goal.returns-in-Err-clause-ends
returns-in-Err-clause-ends g c = refused_right c.in-Err.error c.refuse.result c.refuse.ensures.refused

pub returns-in-Err-clause-ready : goal.returns-in-Err-clause-ready
returns-in-Err-clause-ready g c = refused_ends (λ t. IsReady c.refuse.new.work c.next.new.self) c.in-Err.error c.refuse.result c.refuse.ensures.refused

pub returns-in-Err-clause-shorter : goal.returns-in-Err-clause-shorter
returns-in-Err-clause-shorter g c =
    refused_ends (λ t. length (seq.rest c.refuse.new.work.world.seen.loaded c.next.new.self) < length (seq.rest c.args.work.now.world.seen.loaded c.args.path.now)) c.in-Err.error c.refuse.result c.refuse.ensures.refused

pub returns-in-Err-clause-former : goal.returns-in-Err-clause-former
returns-in-Err-clause-former g c =
    ok_on (IsRefusedBy c.in-Err.error) c.refuse.result (λ t is. ap (λ (w : World). former_items w.plan.overlay) c.refuse.ensures.world) c.refuse.ensures.refused

pub returns-in-Err-clause-asks : goal.returns-in-Err-clause-asks
returns-in-Err-clause-asks g c = asks_none g.V.Volume.told (g.V.Volume.state c.args.vol.now) (g.S.Source.files c.args.src.now) (g.S.Source.faults c.args.src.now)

pub returns-in-Err-clause-fails : goal.returns-in-Err-clause-fails
returns-in-Err-clause-fails g c =
    fails_not (volume.Rose (g.V.Volume.state c.args.vol.now) (g.V.Volume.state c.args.vol.now)) (Rose (g.S.Source.faults c.args.src.now) (g.S.Source.faults c.args.src.now)) c.refuse.result c.refuse.ensures.fails
