-- What is read is a folder's path.
use Rattle.std.specs.List.{slice_split}
use Rattle.mi_text.specs.Path.{is_backslash}
use Rattle.mi_text.proofs.PathLemmas.{IsFolder, read_in, plain_parts, folder_is_path, folder_path}
use Rattle.mi_text.proofs.path.PathText.folder.Goals as goal

is_made : (c : goal.In-Ok) → IsFolder c.in-Ok.text
is_made c = read_in (slice_split is_backslash c.in-Some.rest.now) c.in-Ok.text (plain_parts c.in-Some.rest.now) c.in-Ok.ensures

pub invariant_of-result : goal.invariant_of-result
invariant_of-result c = folder_is_path c.in-Ok.text (is_made c)

pub returns-in-Ok-clause-folder : goal.returns-in-Ok-clause-folder
returns-in-Ok-clause-folder c = folder_path c.in-Ok.text (is_made c)
