-- The parent of a file's path is what stands up to its last backslash.
use Rattle.std.proofs.Common.{Some, ap, ◌∙◌}
use Rattle.mi_text.specs.Fold.{folded}
use Rattle.mi_shortcuts.proofs.ShortcutLemmas.{parent_is}
use Rattle.mi_shortcuts.proofs.uncreate.some_parent.Goals as goal

pub returns : goal.returns
returns c =
    ap Some (c.in_ok-bytes.ensures ∙ c.as_bytes.ensures.bytes ∙ c.in_ok-text.ensures
    ∙ ap folded (c.as_str.ensures.text ∙ c.in_ok-folder.ensures.parent ∙ parent_is c.args.path c.requires))
