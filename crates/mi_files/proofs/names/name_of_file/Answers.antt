use Rattle.std.proofs.Common.{List, ℕ, Err, ap, sym, subst, ◌∙◌}
use Rattle.mi_text.specs.Fold.{IsNameLength}
use Rattle.mi_files.proofs.FileNameLemmas.{name_length}
use Rattle.mi_files.proofs.names.name_of_file.Goals as goal

pub unreachable-requires : goal.unreachable-requires
unreachable-requires c =
    c.of.ensures.length.0 (c.in-Err-Length.is ∙ ap Err c.in-Err-Length.field-0-is)
    (subst (λ (text : List ℕ). IsNameLength text) (sym (c.as_str.ensures ∙ c.in_ok-text.ensures)) (name_length c.args.path.now c.as_str-text.ensures.path))
