-- The listings (this project's own).
use Rattle.std.specs.Prelude.{ℕ, List, [], ◌∷◌, ◌++◌, codes}
use Rattle.std.specs.List.{flat_map, join_by}
use Rattle.std.specs.Fmt.{decimal}
use Rattle.mi_text.specs.Guid.{guid_text}
use Rattle.mi_text.specs.declared.version.Version.{Version}
use Rattle.mi_base.specs.declared.entry.Client.{Client}
use Rattle.mi_base.specs.declared.entry.Product.{Product}
use Rattle.mi_base.specs.Machine.{Machine}
use Rattle.mi_image.specs.Lists.{products_of, clients_of}
use Rattle.mi_model.specs.Lines.{shown}

-- four numbers with a point between
unfoldable pub version_text : Version → List ℕ
version_text v = join_by decimal (codes ".") (v.major ∷ v.minor ∷ v.build ∷ v.revision ∷ [])

-- texts with a comma between
unfoldable pub features_text : List (List ℕ) → List ℕ
features_text features = join_by shown (codes ",") features

-- fields with a blank between
abbrev pub field_line : List (List ℕ) → List ℕ
field_line fields = join_by (λ field. field) (codes " ") fields ++ 10 ∷ []

unfoldable pub product_line : Product → List ℕ
product_line p = field_line (guid_text p.code.number ∷ version_text p.version ∷ decimal p.language ∷ features_text p.features ∷ shown p.name ∷ [])

-- a line for each product, by code
abbrev pub products_text_of : Machine → List ℕ
products_text_of m = flat_map product_line (products_of m)

unfoldable pub client_line : Client → List ℕ
client_line c = field_line (guid_text c.component.number ∷ guid_text c.product.number ∷ shown c.key_path ∷ [])

-- a line for each client, by component, then product
abbrev pub clients_text_of : Machine → List ℕ
clients_text_of m = flat_map client_line (clients_of m)
