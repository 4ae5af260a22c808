-- The world before any action, and its plan.
use Rattle.std.proofs.Common.{◌≡◌, refl, sym, ap, ◌∙◌, subst}
use Rattle.std.specs.FinMap.{empty}
use Rattle.mi_schema.specs.declared.package.Package.{Package}
use Rattle.mi_schema.specs.RowsOf.{rows_in}
use Rattle.mi_image.specs.Items.{machine_over, AreThere}
use Rattle.mi_image.specs.Overlays.{former_items}
use Rattle.mi_model.specs.Sequence.{sequence}
use Rattle.mi_seq.specs.Orders.{ordered}
use Rattle.mi_plan.specs.declared.planned.WalkPlan.{WalkPlan}
use Rattle.mi_plan.specs.Stages.{IsRight}
use Rattle.mi_plan.proofs.StartLemmas.{some_given}
use Rattle.mi_plan.proofs.TurnLemmas.{ok_map}
use Rattle.mi_plan.proofs.DeviceLemmas.{asks_none}
use Rattle.mi_plan.proofs.planning.started.Goals as goal

pub planned-requires-clause-fresh : goal.planned-requires-clause-fresh
planned-requires-clause-fresh g c =
    let x = some_given c.args.loaded c.args.image c.args.now in
    record {
      right = subst IsRight (sym c.in-Ok.ensures.package) c.requires.right;
      of = (x, c.in-Ok.ensures.seen empty empty x refl refl refl);
      uncosted = c.in-Ok.ensures.uncosted;
      unchanged = c.in-Ok.ensures.image.1 ∙ sym c.in-Ok.ensures.image.0;
      script = c.in-Ok.ensures.script;
    }

pub planned-requires-clause-order : goal.planned-requires-clause-order
planned-requires-clause-order g c = subst (λ (p : Package). ordered p c.args.order.now ≡ sequence (rows_in p)) (sym c.in-Ok.ensures.package) c.requires.order

pub returns-in-Ok-clause-plan : goal.returns-in-Ok-clause-plan
returns-in-Ok-clause-plan g c = λ x v s handed contents starts there.
    let held = (g.V.Volume.state c.args.vol.now).held in
    let files = g.S.Source.files c.args.src.now in
    c.planned.ensures.plan x v s (record {
      of = c.in-Ok.ensures.seen held files x starts.rows starts.former starts.now;
      former = ap (machine_over held files) c.in-Ok.ensures.image.0 ∙ starts.former;
      world = c.in-Ok.ensures.started held files x starts;
      handed = handed;
      contents = subst (AreThere held files) (sym c.in-Ok.ensures.image.1) contents;
      script = c.in-Ok.ensures.script;
    }) there

pub returns-in-Ok-clause-former : goal.returns-in-Ok-clause-former
returns-in-Ok-clause-former g c =
    ok_map (λ (p : WalkPlan). former_items p.overlay ≡ former_items c.in-Ok.world.plan.overlay) (λ (p : WalkPlan). former_items p.overlay ≡ c.args.image) c.planned.result (λ p is. is ∙ c.in-Ok.ensures.image.0) c.planned.ensures.former

pub returns-in-Err-clause-asks : goal.returns-in-Err-clause-asks
returns-in-Err-clause-asks g c = asks_none g.V.Volume.told (g.V.Volume.state c.args.vol.now) (g.S.Source.files c.args.src.now) (g.S.Source.faults c.args.src.now)
