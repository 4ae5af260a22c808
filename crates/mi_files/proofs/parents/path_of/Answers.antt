-- A folder's path is one.
use Rattle.std.proofs.Common.{◌≡◌, true, Some, None, cond, sym, ap, ◌∙◌}
use Rattle.mi_text.specs.Path.{is_path}
use Rattle.mi_text.proofs.PathLemmas.{folder_is, folder_is_path}
use Rattle.mi_files.proofs.parents.path_of.Goals as goal

pub unreachable-requires : goal.unreachable-requires
unreachable-requires c =
    let text = c.in_ok-text.text in
    let is : is_path text ≡ true = ap is_path c.in_ok-text.ensures ∙ folder_is_path c.args.folder.now (folder_is c.args.folder.now c.requires) in
    let clash = sym c.in-None.is ∙ c.of.ensures ∙ ap (λ b. cond b (Some text) None) is in
    cc
