use Rattle.std.proofs.Common.{◌≡◌, ◌++◌, ◌∷◌, [], cond, Some, subst}
use Rattle.std.specs.FinMap.{get}
use Rattle.mi_base.specs.Machine.{volume_of}
use Rattle.mi_image.specs.Items.{Items, machine_over}
use Rattle.mi_image.specs.declared.item.Item.TheVariants.{Whole}
use Rattle.mi_image.specs.Overlays.{present_items}
use Rattle.mi_script.specs.declared.rec.Rec.TheVariants.{Put}
use Rattle.mi_script.specs.Spelled.{same_record}
use Rattle.mi_steps.specs.Makes.{plan_machine}
use Rattle.mi_steps.proofs.OutsideLemmas.{may_outside}
use Rattle.mi_steps.proofs.StepLemmas.{put_made}
use Rattle.mi_steps.proofs.plan.Plan.put_named.Goals as goal

pub returns-in-Ok-clause-makes : goal.returns-in-Ok-clause-makes
returns-in-Ok-clause-makes c = λ held files.
    put_made files (plan_machine held files c.args.self.now) (machine_over held files (present_items c.put_entry.new.self)) c.args.self.now.script c.note_put.new.script c.args.name c.args.bytes c.args.entry
    c.requires.plain c.requires.record
    (subst (λ (items : Items). c.note_put.new.script ≡ c.args.self.now.script ++ cond (same_record (Some c.args.bytes) (get (volume_of (machine_over held files items)) c.args.name)) [] (Put c.args.name c.args.bytes ∷ [])) c.image.ensures (c.in-Ok.ensures.ok held files))
    (c.in_ok-put_entry-in-Ok.ensures.machine held files)

pub note_put-requires-clause-outside : goal.note_put-requires-clause-outside
note_put-requires-clause-outside c = may_outside c.args.name (Whole c.args.entry) c.requires.may
