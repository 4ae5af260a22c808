use Rattle.std.proofs.Common.{sym, subst}
use Rattle.mi_dirs.specs.Views.{IsFolder}
use Rattle.mi_dirs.proofs.OwnLemmas.{remembered_is_folder}
use Rattle.mi_dirs.proofs.own.own_of.Goals as goal

pub returns-in_ok-folder-in-Some-clause-folder : goal.returns-in_ok-folder-in-Some-clause-folder
returns-in_ok-folder-in-Some-clause-folder c =
    subst IsFolder (sym c.in_ok-folder-in-Some.ensures) (remembered_is_folder c.args.remembered.now c.args.key.now c.in-Some.folder.now c.requires.folders (sym c.in-Some.ensures))
