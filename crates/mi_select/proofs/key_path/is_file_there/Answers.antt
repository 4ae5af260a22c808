-- The content of a file is found where the file is.
use Rattle.std.proofs.Common.{◌∙◌}
use Rattle.mi_base.specs.declared.entry.FileEntry.{FileEntry}
use Rattle.mi_base.specs.Machine.{file_at}
use Rattle.mi_base.specs.Names.{file_name}
use Rattle.mi_image.specs.Items.{content_bytes, machine_over}
use Rattle.mi_select.proofs.KeyPathLemmas.{found_as}
use Rattle.mi_select.proofs.key_path.is_file_there.Goals as goal

pub returns : goal.returns
returns c = λ held files.
    c.is_some.ensures
    ∙ found_as (content_bytes held files (file_name c.args.path.now)) (λ (f : FileEntry). f.bytes) c.content.result (file_at (machine_over held files c.args.former.now) c.args.path.now) (c.content.ensures held files)
