-- The folders, then the copy.
use Rattle.mi_records.proofs.KeyLemmas.{if_ok}
use Rattle.mi_files.proofs.CopyLemmas.{with_folders}
use Rattle.mi_files.proofs.duplicate.copy_with_folders.Goals as goal

pub returns-clause-makes : goal.returns-clause-makes
returns-clause-makes c = λ held files there.
    if_ok c.write_copy.result (c.write_copy.ensures.makes held files (c.in_ok-make_folders.ensures.there held files there))
    (with_folders held files c.args.plan.now c.make_folders.new.plan c.write_copy.new.plan c.args.path.now c.in_ok-folder.folder c.args.moment c.args.from.now c.requires.path c.requires.from c.in_ok-folder.ensures.parent (c.in_ok-make_folders.ensures.makes held files))
