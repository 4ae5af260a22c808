-- Where the directory has a target.
use Rattle.std.proofs.Common.{[], List, ℕ, Option, ap, sym, subst, ◌∙◌}
use Rattle.std.specs.Prelude.{OnOk}
use Rattle.std.specs.Option.{option_copied, option_map_or}
use Rattle.mi_dirs.specs.Places.{target_of}
use Rattle.mi_model.specs.Parents.{folder_with_parents}
use Rattle.mi_steps.specs.Makes.{Makes}
use Rattle.mi_files.proofs.folders.make_row.Goals as goal

pub returns-in-Some-clause-makes : goal.returns-in-Some-clause-makes
returns-in-Some-clause-makes g c = λ held files.
    let dirs = (g.E.Sees.choices c.args.seen.now).dirs in
    subst (λ (o : Option (List ℕ)). OnOk c.make_folders.result (Makes held files c.args.plan.now c.make_folders.new.plan (option_map_or folder_with_parents o [])))
    (ap option_copied (sym c.in-Some.is) ∙ c.target.ensures.target ∙ ap (target_of dirs) c.as_str.ensures) (c.make_folders.ensures.makes held files)
