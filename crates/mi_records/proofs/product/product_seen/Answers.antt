-- What the rows state, and the features as they are seen.
use Rattle.std.proofs.Common.{ap, ◌∙◌}
use Rattle.std.specs.Prelude.{codes, unwrap_or}
use Rattle.mi_text.specs.Version.{version_of}
use Rattle.mi_idt.specs.Fields.{number_within}
use Rattle.mi_schema.specs.declared.package.Package.{Package}
use Rattle.mi_schema.specs.RowsOf.{rows_in}
use Rattle.mi_schema.specs.TableRows.{product_code, table_value}
use Rattle.mi_model.specs.PublishProduct.{no_version}
use Rattle.mi_records.proofs.ProductLemmas.{stated_entry}
use Rattle.mi_records.proofs.product.product_seen.Goals as goal

pub returns : goal.returns
returns g c =
    stated_entry (rows_in (g.S.Sees.rows c.args.seen.now)) c.in_ok-code.code c.in_ok-name.name c.in_ok-version.version c.in_ok-language.language c.from_vec.result (g.S.Sees.choices c.args.seen.now).local_after
    (c.in_ok-code.ensures ∙ ap (λ (p : Package). product_code (rows_in p)) c.package.ensures)
    (c.in_ok-name.ensures ∙ ap (λ (p : Package). table_value (rows_in p) (codes "ProductName")) c.package-4.ensures)
    (c.in_ok-version.ensures ∙ ap (λ (p : Package). unwrap_or (version_of (table_value (rows_in p) (codes "ProductVersion"))) no_version) c.package-2.ensures)
    (c.in_ok-language.ensures ∙ ap (λ (p : Package). unwrap_or (number_within 65535 (table_value (rows_in p) (codes "ProductLanguage"))) 0) c.package-3.ensures)
    (c.from_vec.ensures ∙ c.in_ok-features.ensures)
