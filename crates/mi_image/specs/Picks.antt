-- What the lists pick of an item.
use Rattle.std.specs.Prelude.{ℕ, ◌==◌, if◌then◌else◌, List, length, Option, Some, None}
use Rattle.mi_base.specs.declared.entry.Client.{Client}
use Rattle.mi_base.specs.declared.entry.Product.{Product}
use Rattle.mi_base.specs.declared.entry.ValueKey.{ValueKey}
use Rattle.mi_base.specs.declared.entry.Entry.TheVariants as entry
use Rattle.mi_base.specs.Machine.{as_client, as_folder, as_key, as_product}
use Rattle.mi_image.specs.declared.item.Item.{Item}
use Rattle.mi_image.specs.declared.item.Item.TheVariants.{Head, Whole}
use Rattle.mi_image.specs.Lists.{with_component, shown_shortcut, value_in_keys}
use Rattle.mi_image.specs.Lookups.{whole_of}

abbrev pub product_in : Item → Option Product
product_in i = as_product (whole_of (Some i))

abbrev pub client_in : Item → Option Client
client_in i = as_client (whole_of (Some i))

abbrev pub client_with : ℕ → Item → Option Client
client_with component i = with_component component (client_in i)

-- the shown path of a file
abbrev pub file_in : Item → Option (List ℕ)
file_in (Head h content) = Some h.shown
file_in (Whole e) = None

abbrev pub value_in : ℕ → List ℕ → List ℕ → Item → Option ValueKey
value_in root key front (Head h content) = None
value_in root key front (Whole e) = value_in_keys root key front e

-- the length of the key of a value of this root
abbrev pub key_length : ℕ → Item → Option ℕ
key_length root (Whole (entry.Value k v)) = if k.root == root then Some (length k.key) else None
key_length root other = None

-- the shown path of a folder
abbrev pub folder_in : Item → Option (List ℕ)
folder_in i = as_folder (whole_of (Some i))

-- the shown path of a shortcut
abbrev pub shortcut_in : Item → Option (List ℕ)
shortcut_in i = shown_shortcut (whole_of (Some i))

-- a key as it is shown
abbrev pub key_in : Item → Option (List ℕ)
key_in i = as_key (whole_of (Some i))
