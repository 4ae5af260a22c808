use Rattle.std.proofs.Common.{List, ℕ, ap, ◌∙◌}
use Rattle.std.specs.Prelude.{unwrap_or}
use Rattle.mi_text.specs.Guid.{guid_of}
use Rattle.mi_schema.specs.RowsOf.{rows_in}
use Rattle.mi_schema.specs.TableRows.{table_value, product_code}
use Rattle.mi_features.proofs.record.product_code.Goals as goal

pub returns : goal.returns
unfolding product_code
returns c = c.code_in.ensures ∙ ap (λ (t : List ℕ). unwrap_or (guid_of t) 0) (c.table_value.ensures ∙ ap (λ (n : List ℕ). table_value (rows_in c.args.loaded.now) n) c.in_ok-name.ensures)
