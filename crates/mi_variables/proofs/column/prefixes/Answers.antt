use Rattle.std.proofs.Common.{◌≤◌, length, sym, subst}
use Rattle.std.specs.Prelude.{codes}
use Rattle.mi_model.specs.EnvironmentRows.{is_any_of}
use Rattle.mi_variables.proofs.ColumnLemmas.{front_within}
use Rattle.mi_variables.proofs.column.prefixes.Goals as goal

pub split_at-requires : goal.split_at-requires
split_at-requires c = subst (λ n. n ≤ length c.as_bytes-bytes.result.now) (sym c.prefix_count.ensures) (front_within (is_any_of (codes "=+-!*")) c.as_bytes-bytes.result.now)
