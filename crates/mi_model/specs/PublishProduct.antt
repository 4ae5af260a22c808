-- PublishProduct: the product's record. (PublishProduct Action; ProductCode, ProductName, ProductVersion and ProductLanguage Properties,
-- as the rows of the Property table state them. The record is this project's own.)
use Rattle.std.specs.Prelude.{List, [], ◌∷◌, codes, Option, Some, None, unwrap_or, Ok}
use Rattle.mi_text.specs.Version.{version_of}
use Rattle.mi_text.specs.declared.version.Version.{Version}
use Rattle.mi_idt.specs.Fields.{number_within}
use Rattle.mi_base.specs.declared.entry.Entry.{Entry}
use Rattle.mi_base.specs.declared.entry.Entry.TheVariants.{Product}
use Rattle.mi_base.specs.Names.{product_name}
use Rattle.mi_model.specs.Texts.{Text}
use Rattle.mi_schema.specs.TableRows.{Rows, product_code, table_value}
use Rattle.mi_changes.specs.Touches.{Set}
use Rattle.mi_model.specs.World.{Effect}
use Rattle.mi_model.specs.Asked.{chosen}

abbrev pub no_version : Version
no_version = record { major = 0; minor = 0; build = 0; revision = 0 }

-- with these features, in byte order
abbrev pub product_entry : Rows → List Text → Entry
product_entry rows features = Product (record {
  code = record { number = product_code rows };
  name = table_value rows (codes "ProductName");
  version = unwrap_or (version_of (table_value rows (codes "ProductVersion"))) no_version;
  language = unwrap_or (number_within 65535 (table_value rows (codes "ProductLanguage"))) 0;
  features = features;
})

-- a product is recorded while features of it are installed
abbrev pub product_after : Rows → List Text → Option Entry
product_after rows [] = None
product_after rows (f ∷ fs) = Some (product_entry rows (f ∷ fs))

unfoldable pub publish_product : Effect
publish_product w = Ok ((λ m. Ok (Set (product_name (product_code w.given.rows)) (λ old. product_after w.given.rows (chosen w (λ s. s.local_after))) ∷ [])) ∷ [])
