-- The lists of a machine, in byte order of the volume's names.
use Rattle.std.specs.Prelude.{ℕ, ◌==◌, ◌&&◌, ◌||◌, Bool, if◌then◌else◌, List, [], ◌∷◌, ◌++◌, nat_eq, Option, Some, None, option_map}
use Rattle.std.specs.List.{starts_with, filter_map}
use Rattle.std.specs.Str.{bytes_eq}
use Rattle.std.specs.FinMap.{entries}
use Rattle.mi_text.specs.Fold.{folded}
use Rattle.mi_text.specs.Path.{is_folder_path}
use Rattle.mi_base.specs.declared.entry.FileEntry.{FileEntry}
use Rattle.mi_base.specs.declared.entry.Shortcut.{Shortcut}
use Rattle.mi_base.specs.declared.entry.Client.{Client}
use Rattle.mi_base.specs.declared.entry.Product.{Product}
use Rattle.mi_base.specs.declared.entry.ValueKey.{ValueKey}
use Rattle.mi_base.specs.declared.entry.Entry.{Entry}
use Rattle.mi_base.specs.declared.entry.Entry.TheVariants as entry
use Rattle.mi_base.specs.Machine.{Machine, as_file, as_folder, as_shortcut, as_client, as_product}

-- what is picked of the entries, in order
abbrev pub picked : {Y : Type 0} → (Entry → Option Y) → Machine → List Y
picked pick m = filter_map (λ e. pick e.1) (entries m)

-- the products, by code (this project's own)
unfoldable pub products_of : Machine → List Product
products_of m = picked (λ e. as_product (Some e)) m

-- the clients, by component, then product (Component table)
unfoldable pub clients_of : Machine → List Client
clients_of m = picked (λ e. as_client (Some e)) m

abbrev pub with_component : ℕ → Option Client → Option Client
with_component component None = None
with_component component (Some c) = if c.component.number == component then Some c else None

-- the clients of one component, by product
unfoldable pub clients_with : Machine → ℕ → List Client
clients_with m component = picked (λ e. with_component component (as_client (Some e))) m

-- a path in a folder or in a folder below it, in whichever case
abbrev pub is_below : List ℕ → List ℕ → Bool
is_below folder path = is_folder_path folder && starts_with nat_eq (folded path) (folded folder)

-- the path, where it is in this folder or below it
abbrev pub path_below : List ℕ → Option (List ℕ) → Option (List ℕ)
path_below folder None = None
path_below folder (Some path) = if is_below folder path then Some path else None

abbrev pub shown_file : Option Entry → Option (List ℕ)
shown_file e = option_map (λ (f : FileEntry). f.shown) (as_file e)

abbrev pub shown_shortcut : Option Entry → Option (List ℕ)
shown_shortcut e = option_map (λ (s : Shortcut). s.shown) (as_shortcut e)

-- the shown paths of the files below a folder (File table)
unfoldable pub files_under : Machine → List ℕ → List (List ℕ)
files_under m folder = picked (λ e. path_below folder (shown_file (Some e))) m

-- the shown paths of the recorded folders below a folder, and of the folder itself (CreateFolder table)
unfoldable pub folders_under : Machine → List ℕ → List (List ℕ)
folders_under m folder = picked (λ e. path_below folder (as_folder (Some e))) m

-- the shown paths of the shortcuts below a folder (Shortcut table)
unfoldable pub shortcuts_under : Machine → List ℕ → List (List ℕ)
shortcuts_under m folder = picked (λ e. path_below folder (shown_shortcut (Some e))) m

-- the folded key is this one, or begins so
abbrev pub is_in_keys : List ℕ → List ℕ → List ℕ → Bool
is_in_keys key front own = bytes_eq own key || starts_with nat_eq own front

-- the value stands in this key, or in a key that begins so; keys are folded
abbrev pub value_in_keys : ℕ → List ℕ → List ℕ → Entry → Option ValueKey
value_in_keys root key front (entry.Value k v) = if (k.root == root) && is_in_keys key front k.key then Some k else None
value_in_keys root key front other = None

-- in this key, or in a key below it, in whichever case
abbrev pub value_below : ℕ → List ℕ → Entry → Option ValueKey
value_below root key e = value_in_keys root (folded key) (folded key ++ 92 ∷ []) e

-- where the values of a key and of the keys below it stand (Registry table)
unfoldable pub values_under : Machine → ℕ → List ℕ → List ValueKey
values_under m root key = picked (value_below root key) m

-- this key, or a key below it, in whichever case
abbrev pub key_below : ℕ → List ℕ → Entry → Option (List ℕ)
key_below root key (entry.Key own shown) = if (own == root) && is_in_keys (folded key) (folded key ++ 92 ∷ []) (folded shown) then Some shown else None
key_below root key other = None

-- the keys below a key, and the key itself, as they are shown (Registry table)
unfoldable pub keys_under : Machine → ℕ → List ℕ → List (List ℕ)
keys_under m root key = picked (key_below root key) m
