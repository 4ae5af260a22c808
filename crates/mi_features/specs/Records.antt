-- The product's record as the program keeps it. (This project's own.)
use Rattle.std.specs.Prelude.{◌≡◌, List, [], Option, option_map, is_none, unwrap_or}
use Rattle.std.specs.BTreeSet.{contains}
use Rattle.mi_text.specs.Maps.{Name, name_cmp, is_among}
use Rattle.mi_base.specs.declared.entry.Product.{Product}
use Rattle.mi_base.specs.Machine.{Machine, product_at}
use Rattle.mi_schema.specs.TableRows.{Rows, product_code}
use Rattle.mi_model.specs.Texts.{Text}
use Rattle.mi_features.specs.declared.record.Record.{Record}

-- the features of the product's record, if there is one
abbrev pub recorded_in : Machine → Rows → Option (List Text)
recorded_in m rows = option_map (λ (p : Product). p.features) (product_at m (product_code rows))

pub record IsRecord (names : Option (List Text)) (r : Record) : Type 0 where
  pub features : (q : Name) → contains name_cmp r.features q ≡ is_among q (unwrap_or names [])
  pub is_new : r.is_new ≡ is_none names
