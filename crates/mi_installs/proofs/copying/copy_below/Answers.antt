-- The folders, then the file.
use Rattle.std.proofs.Common.{[], ◌∷◌, ◌∙◌}
use Rattle.mi_base.specs.Names.{file_name}
use Rattle.mi_script.specs.declared.rec.Rec.TheVariants.{Copy}
use Rattle.mi_model.specs.Parents.{folder_with_parents}
use Rattle.mi_steps.specs.Makes.{plan_machine, copy_touch}
use Rattle.mi_steps.proofs.FollowLemmas.{joined}
use Rattle.mi_steps.proofs.StepLemmas.{grows_on}
use Rattle.mi_installs.proofs.LengthLemmas.{folders_whole, copy_whole, whole_on}
use Rattle.mi_installs.proofs.copying.copy_below.Goals as goal

pub returns-clause-makes : goal.returns-clause-makes
returns-clause-makes c = λ held files.
    joined files (plan_machine held files c.args.plan.now) (plan_machine held files c.make_folders.new.plan) (plan_machine held files c.copy_file.new.self) c.args.plan.now.script c.make_folders.new.plan.script c.copy_file.new.self.script
    (folder_with_parents c.args.folder.now) (copy_touch files c.args.head.now c.args.path.now ∷ [])
    (c.in_ok-make_folders.ensures.makes held files) (c.in_ok-copy_file.ensures.makes held files)

pub returns-clause-lengths : goal.returns-clause-lengths
returns-clause-lengths c = λ files long.
    let h = c.args.head.now in
    let front = c.make_folders.ensures.grows in
    whole_on files c.args.plan.now.script c.make_folders.new.plan.script c.copy_file.new.self.script front.0 (Copy (file_name h.shown) h c.args.file.now c.args.path.now h.length ∷ []) front.1 c.in_ok-copy_file.ensures.adds
    (folders_whole c.args.plan.now c.make_folders.new.plan c.args.folder.now (λ held files. c.in_ok-make_folders.ensures.makes held files) files)
    (copy_whole files c.make_folders.new.plan.script c.copy_file.new.self.script (file_name h.shown) h c.args.file.now c.args.path.now h.length c.in_ok-copy_file.ensures.adds long)

pub returns-clause-grows : goal.returns-clause-grows
returns-clause-grows c = record {
  former = c.copy_file.ensures.former ∙ c.make_folders.ensures.former;
  grows = grows_on c.args.plan.now.script c.make_folders.new.plan.script c.copy_file.new.self.script c.make_folders.ensures.grows c.copy_file.ensures.grows;
}
