-- The folder of a file's path.
use Rattle.std.proofs.Common.{List, ℕ, subst, ◌∙◌}
use Rattle.std.specs.Prelude.{OnOk}
use Rattle.mi_model.specs.Parents.{folder_with_parents}
use Rattle.mi_steps.specs.Makes.{Makes}
use Rattle.mi_shortcuts.proofs.ShortcutLemmas.{parent_is}
use Rattle.mi_shortcuts.proofs.create.make_parents.Goals as goal

pub returns-in-Ok-clause-makes : goal.returns-in-Ok-clause-makes
returns-in-Ok-clause-makes c = λ held files.
    subst (λ (n : List ℕ). OnOk c.make_folders.result (Makes held files c.args.plan.now c.make_folders.new.plan (folder_with_parents n))) (c.in-Ok.ensures.parent ∙ parent_is c.args.path.now c.requires) (c.make_folders.ensures.makes held files)
