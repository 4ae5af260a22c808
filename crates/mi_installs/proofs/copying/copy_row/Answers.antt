-- The head and the folder of the row's path.
use Rattle.std.proofs.Common.{List, subst}
use Rattle.std.specs.Prelude.{OnOk}
use Rattle.mi_base.specs.declared.entry.Entry.{Entry}
use Rattle.mi_changes.specs.Touches.{Touch}
use Rattle.mi_steps.specs.Makes.{Makes}
use Rattle.mi_installs.proofs.InstallLemmas.{file_made, copied_long, copied_whole}
use Rattle.mi_installs.proofs.copying.copy_row.Goals as goal

pub returns-in-Ok-clause-makes : goal.returns-in-Ok-clause-makes
returns-in-Ok-clause-makes c = λ held files w bytes now got.
    subst (λ (ts : List (Touch Entry)). OnOk c.copy_below-done.result (Makes held files c.args.plan.now c.copy_below-done.new.plan ts))
    (file_made files w c.args.placed.now c.in-Ok.head c.in_ok-folder.folder c.args.path.now bytes c.requires.path c.in_ok-folder.ensures.parent got (c.in-Ok.ensures.head w bytes now))
    (c.copy_below-done.ensures.makes held files)

pub returns-in-Ok-clause-there : goal.returns-in-Ok-clause-there
returns-in-Ok-clause-there c = λ held files bytes got long.
    c.copy_below-done.ensures.there held files (copied_long files c.in-Ok.head c.args.placed.now.row.now c.args.path.now bytes got long c.in-Ok.ensures.size)

pub returns-in-Ok-clause-lengths : goal.returns-in-Ok-clause-lengths
returns-in-Ok-clause-lengths c = λ files bytes got long.
    c.copy_below-done.ensures.lengths files (copied_whole files c.in-Ok.head c.args.placed.now.row.now c.args.path.now bytes got long c.in-Ok.ensures.size)
