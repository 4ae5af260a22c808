-- The record of a product, by what the rows of the Property table state.
use Rattle.std.proofs.Common.{◌≡◌, ℕ, List, ap, ◌∙◌}
use Rattle.std.specs.Prelude.{codes, unwrap_or}
use Rattle.mi_text.specs.Maps.{Name}
use Rattle.mi_text.specs.declared.guid.Guid.{Guid}
use Rattle.mi_text.specs.declared.version.Version.{Version}
use Rattle.mi_text.specs.Version.{version_of}
use Rattle.mi_idt.specs.Fields.{number_within}
use Rattle.mi_base.specs.declared.entry.Entry.TheVariants as entry
use Rattle.mi_base.specs.declared.entry.Product.{Product}
use Rattle.mi_schema.specs.TableRows.{Rows, product_code, table_value}
use Rattle.mi_model.specs.PublishProduct.{no_version, product_entry}

module _ (rows : Rows) (code : Guid) (name : Name) (version : Version) (language : ℕ) (features : List Name) where
  abbrev this : Product
  this = record { code = code; name = name; version = version; language = language; features = features }

  pub stated_entry : (names : List Name) → code.number ≡ product_code rows → name ≡ table_value rows (codes "ProductName") → version ≡ unwrap_or (version_of (table_value rows (codes "ProductVersion"))) no_version
      → language ≡ unwrap_or (number_within 65535 (table_value rows (codes "ProductLanguage"))) 0 → features ≡ names → entry.Product this ≡ product_entry rows names
  stated_entry names c n v l f =
      ap (λ (x : ℕ). entry.Product (record { code = record { number = x }; name = name; version = version; language = language; features = features })) c
      ∙ ap (λ (x : Name). entry.Product (record { code = record { number = product_code rows }; name = x; version = version; language = language; features = features })) n
      ∙ ap (λ (x : Version). entry.Product (record { code = record { number = product_code rows }; name = table_value rows (codes "ProductName"); version = x; language = language; features = features })) v
      ∙ ap (λ (x : ℕ). entry.Product (record { code = record { number = product_code rows }; name = table_value rows (codes "ProductName"); version = unwrap_or (version_of (table_value rows (codes "ProductVersion"))) no_version; language = x; features = features })) l
      ∙ ap (product_entry rows) f
