-- The code that the text spells, or zeros.
use Rattle.std.proofs.Common.{ap, sym, ◌∙◌}
use Rattle.std.specs.Prelude.{unwrap_or}
use Rattle.mi_text.specs.Guid.{guid_of}
use Rattle.mi_schema.specs.TableRows.{product_code}
use Rattle.mi_world.proofs.rows.product_code.Goals as goal

pub returns-in-Ok : goal.returns-in-Ok
unfolding product_code
returns-in-Ok c = sym (ap (λ o. unwrap_or o 0) (ap guid_of (sym c.table_value.ensures) ∙ c.in-Ok.ensures))

pub returns-in-Err : goal.returns-in-Err
unfolding product_code
returns-in-Err c = sym (ap (λ o. unwrap_or o 0) (ap guid_of (sym c.table_value.ensures) ∙ c.in-Err.ensures))
