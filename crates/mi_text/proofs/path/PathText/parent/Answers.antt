-- The parent is a folder.
use Rattle.std.proofs.Common.{◌≡◌, true, ap, ◌∙◌}
use Rattle.mi_text.specs.Path.{parent_of, is_folder_path}
use Rattle.mi_text.proofs.PathLemmas.{parent_path, folder_is, folder_is_path}
use Rattle.mi_text.proofs.path.PathText.parent.Goals as goal

is_folder : (c : goal.In_ok-text) → is_folder_path c.in_ok-text.text ≡ true
is_folder c = ap is_folder_path (c.in_ok-text.ensures ∙ c.parent_text.ensures ∙ ap parent_of c.as_str.ensures.text) ∙ parent_path c.args.self.now c.as_str.ensures.path

pub invariant_of-result : goal.invariant_of-result
invariant_of-result c = folder_is_path c.in_ok-text.text (folder_is c.in_ok-text.text (is_folder c))

pub returns-clause-folder : goal.returns-clause-folder
returns-clause-folder c = is_folder c
