use Rattle.std.proofs.Common.{List, ℕ, ap, ◌∙◌}
use Rattle.std.specs.Prelude.{unwrap_or}
use Rattle.mi_text.specs.Guid.{guid_of}
use Rattle.mi_schema.specs.TableRows.{product_code}
use Rattle.mi_records.proofs.product.product_code.Goals as goal

pub returns : goal.returns
unfolding product_code
returns c = c.code_in.ensures ∙ ap (λ (t : List ℕ). unwrap_or (guid_of t) 0) (c.as_str.ensures ∙ c.in_ok-text.ensures)
