-- An arm for each step.
use Rattle.std.proofs.Common.{Some, length, refl, sym, ◌∙◌, subst}
use Rattle.mi_base.specs.declared.answers.Cause.TheVariants.{ErrorAction}
use Rattle.mi_seq.specs.declared.step.Step.{Step}
use Rattle.mi_seq.specs.declared.step.Step.TheVariants as step
use Rattle.mi_plan.specs.declared.turn.Turn.TheVariants.{Went, Ended}
use Rattle.mi_plan.specs.Turns.{Takes}
use Rattle.mi_plan.proofs.ArmLemmas.{plain_went, initialize_went, error_ended, takes_world, takes_result, ends_result, still_lengths, arm_lengths, end_lengths}
use Rattle.mi_plan.proofs.steps.take_seen.Goals as goal

pub returns-in-Plain-clause-takes : goal.returns-in-Plain-clause-takes
returns-in-Plain-clause-takes c = λ held files.
    let action = c.in-Plain.field-0 in
    subst (λ (s : Step). Takes held files c.args.folder.now s c.args.work.now c.args.work.now Went) (sym c.in-Plain.is)
    (takes_world held files c.args.folder.now (step.Plain action) c.args.work.now c.args.work.now.world Went (plain_went held files c.args.folder.now action c.args.work.now.world))

pub returns-in-Initialize-clause-takes : goal.returns-in-Initialize-clause-takes
returns-in-Initialize-clause-takes c = λ held files.
    subst (λ (s : Step). Takes held files c.args.folder.now s c.args.work.now c.args.work.now Went) (sym c.in-Initialize.is)
    (takes_world held files c.args.folder.now step.Initialize c.args.work.now c.args.work.now.world Went (initialize_went held files c.args.folder.now c.args.work.now.world))

pub returns-in-Error-clause-takes : goal.returns-in-Error-clause-takes
returns-in-Error-clause-takes c = λ held files.
    let action = c.in-Error.action in
    let text = c.in-Error.text in
    subst (λ (s : Step). Takes held files c.args.folder.now s c.args.work.now c.args.work.now (Ended (Some (ErrorAction action text)))) (sym c.in-Error.is)
    (takes_world held files c.args.folder.now (step.Error action text) c.args.work.now c.args.work.now.world (Ended (Some (ErrorAction action text))) (error_ended held files c.args.folder.now action text c.args.work.now.world))

pub returns-in-Launch-clause-takes : goal.returns-in-Launch-clause-takes
returns-in-Launch-clause-takes c = λ held files. takes_result held files c.args.folder.now c.args.step step.Launch c.args.work.now c.args.work.now.world c.launch.result c.in-Launch.is (c.launch.ensures.begins held files c.args.folder.now)

pub returns-in-Cost-clause-takes : goal.returns-in-Cost-clause-takes
returns-in-Cost-clause-takes c = λ held files. takes_result held files c.args.folder.now c.args.step step.Cost c.args.work.now c.cost.new.world c.cost.result c.in-Cost.is (c.cost.ensures.begins held files)

pub returns-in-SetProperty-clause-takes : goal.returns-in-SetProperty-clause-takes
returns-in-SetProperty-clause-takes c = λ held files.
    takes_result held files c.args.folder.now c.args.step (step.SetProperty c.in-SetProperty.action c.as_str.result.now c.as_str-in-SetProperty.result.now) c.args.work.now c.set_property.new.world c.set_property.result
    (c.in-SetProperty.is ∙ (λ i. step.SetProperty c.in-SetProperty.action (sym c.as_str.ensures i) (sym c.as_str-in-SetProperty.ensures i))) (c.set_property.ensures.begins held files c.args.folder.now)

pub returns-in-SetDir-clause-takes : goal.returns-in-SetDir-clause-takes
returns-in-SetDir-clause-takes c = λ held files.
    takes_result held files c.args.folder.now c.args.step (step.SetDir c.in-SetDir.field-0 c.as_str-in-SetDir.result.now c.as_str-in-SetDir-2.result.now) c.args.work.now c.set_dir.new.world c.set_dir.result
    (c.in-SetDir.is ∙ (λ i. step.SetDir c.in-SetDir.field-0 (sym c.as_str-in-SetDir.ensures i) (sym c.as_str-in-SetDir-2.ensures i))) (c.set_dir.ensures.begins held files c.args.folder.now c.in-SetDir.field-0)

pub returns-in-Execute-clause-takes : goal.returns-in-Execute-clause-takes
returns-in-Execute-clause-takes c = λ held files.
    let e = c.end_segment.ensures in
    ends_result held files c.args.folder.now c.args.step (step.Execute c.in-Execute.field-0) c.args.work.now c.end_segment.new.self c.end_segment.result c.in-Execute.is refl e.went e.seen e.overlay e.script e.begun e.segments

pub returns-in-Finalize-clause-takes : goal.returns-in-Finalize-clause-takes
returns-in-Finalize-clause-takes c = λ held files.
    let e = c.end_segment-in-Finalize.ensures in
    ends_result held files c.args.folder.now c.args.step step.Finalize c.args.work.now c.end_segment-in-Finalize.new.self c.end_segment-in-Finalize.result c.in-Finalize.is refl e.went e.seen e.overlay e.script e.begun e.segments

-- ---- lengths

pub returns-in-Plain-clause-lengths : goal.returns-in-Plain-clause-lengths
returns-in-Plain-clause-lengths c = λ files have. have

pub returns-in-Initialize-clause-lengths : goal.returns-in-Initialize-clause-lengths
returns-in-Initialize-clause-lengths c = λ files have. have

pub returns-in-Error-clause-lengths : goal.returns-in-Error-clause-lengths
returns-in-Error-clause-lengths c = λ files have. have.1

pub returns-in-Launch-clause-lengths : goal.returns-in-Launch-clause-lengths
returns-in-Launch-clause-lengths c = λ files have. still_lengths files c.args.work.now c.launch.result have

pub returns-in-Cost-clause-lengths : goal.returns-in-Cost-clause-lengths
returns-in-Cost-clause-lengths c = λ files have. arm_lengths files step.Cost step.Cost c.args.work.now c.cost.new.world c.cost.result refl refl c.cost.ensures.leaves have

pub returns-in-SetProperty-clause-lengths : goal.returns-in-SetProperty-clause-lengths
returns-in-SetProperty-clause-lengths c = λ files have.
    let s = step.SetProperty c.in-SetProperty.action c.as_str.result.now c.as_str-in-SetProperty.result.now in
    arm_lengths files s s c.args.work.now c.set_property.new.world c.set_property.result refl refl c.set_property.ensures.leaves have

pub returns-in-SetDir-clause-lengths : goal.returns-in-SetDir-clause-lengths
returns-in-SetDir-clause-lengths c = λ files have.
    let s = step.SetDir c.in-SetDir.field-0 c.as_str-in-SetDir.result.now c.as_str-in-SetDir-2.result.now in
    arm_lengths files s s c.args.work.now c.set_dir.new.world c.set_dir.result refl refl (c.set_dir.ensures.leaves c.in-SetDir.field-0) have

pub returns-in-Execute-clause-lengths : goal.returns-in-Execute-clause-lengths
returns-in-Execute-clause-lengths c = λ files have.
    end_lengths files c.args.work.now c.end_segment.new.self (length c.args.work.now.begun.items) c.end_segment.result c.end_segment.ensures.script c.end_segment.ensures.kept have

pub returns-in-Finalize-clause-lengths : goal.returns-in-Finalize-clause-lengths
returns-in-Finalize-clause-lengths c = λ files have.
    let e = c.end_segment-in-Finalize.ensures in
    end_lengths files c.args.work.now c.end_segment-in-Finalize.new.self (length c.args.work.now.begun.items) c.end_segment-in-Finalize.result e.script e.kept have
