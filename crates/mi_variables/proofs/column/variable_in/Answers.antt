-- Prefixes are bytes of ASCII.
use Rattle.std.proofs.Common.{List, ℕ, sym, ap, subst, ◌∙◌}
use Rattle.std.specs.Prelude.{codes}
use Rattle.std.specs.List.{prefix_len}
use Rattle.std.specs.Str.{IsCharBoundary}
use Rattle.mi_model.specs.EnvironmentRows.{is_any_of}
use Rattle.mi_variables.proofs.ColumnLemmas.{front_boundary}
use Rattle.mi_variables.proofs.column.variable_in.Goals as goal

pub split_at-requires : goal.split_at-requires
split_at-requires c =
    subst (λ n. IsCharBoundary c.args.name.now n) (sym (c.prefix_count-count.ensures ∙ ap (λ (xs : List ℕ). prefix_len (is_any_of (codes "=+-!*")) xs) c.as_bytes.ensures.value)) (front_boundary c.args.name.now c.utf8.name)
