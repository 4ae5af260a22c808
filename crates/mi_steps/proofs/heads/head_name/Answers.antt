use Rattle.std.proofs.Common.{[], List, ℕ, Err, ap, sym, subst, ◌∙◌}
use Rattle.mi_text.specs.Fold.{IsNameLength}
use Rattle.mi_base.specs.declared.entry.Entry.TheVariants as entry
use Rattle.mi_base.specs.Records.{with_bytes}
use Rattle.mi_base.proofs.NameLemmas.{name_length}
use Rattle.mi_steps.proofs.heads.head_name.Goals as goal

pub unreachable-requires : goal.unreachable-requires
unreachable-requires c =
    c.of.ensures.length.0 (c.in-Err-Length.is ∙ ap Err c.in-Err-Length.field-0-is)
    (subst (λ (text : List ℕ). IsNameLength text) (sym (c.as_str.ensures ∙ c.in_ok-text.ensures)) (name_length (entry.File (with_bytes c.args.head.now [])) c.requires))
