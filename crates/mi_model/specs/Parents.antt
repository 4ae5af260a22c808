-- What a written entry brings with it: its missing parents. (CreateFolders Action; WriteRegistryValues Action. This project's own.)
use Rattle.std.specs.Prelude.{ℕ, ◌==◌, not, List, [], ◌∷◌, map, filter, length, drop, Option, Some, unwrap_or}
use Rattle.std.specs.List.{slice_split, join_with_byte}
use Rattle.mi_text.specs.Path.{is_backslash, path_text, up_to_last}
use Rattle.mi_base.specs.declared.entry.Entry.{Entry}
use Rattle.mi_base.specs.declared.entry.Entry.TheVariants.{Folder, Key}
use Rattle.mi_base.specs.Names.{key_name, folder_name}
use Rattle.mi_model.specs.Texts.{Text}
use Rattle.mi_changes.specs.Touches.{Touch, Set}

-- what stands between backslashes and isn't empty
abbrev pub parts_of : Text → List Text
parts_of text = filter (λ part. not (length part == 0)) (slice_split is_backslash text)

-- the fronts of a list that aren't empty, the shortest first
abbrev pub fronts : {A : Type 0} → List A → List (List A)
fronts [] = []
fronts {A} (x ∷ xs) = (x ∷ []) ∷ map (λ (front : List A). x ∷ front) (fronts xs)

-- what is there stays, and else this comes
abbrev pub or_new : Entry → Option Entry → Option Entry
or_new e old = Some (unwrap_or old e)

-- ---- keys

abbrev pub key_text : List Text → Text
key_text parts = join_with_byte 92 parts

-- the keys down to this one, the outermost first
abbrev pub keys_down_to : Text → List Text
keys_down_to key = map key_text (fronts (parts_of key))

abbrev pub key_touch : ℕ → Text → Touch Entry
key_touch root key = Set (key_name root key) (or_new (Key root key))

-- the key and the keys above it are made where they are missing
abbrev pub key_with_parents : ℕ → Text → List (Touch Entry)
key_with_parents root key = map (key_touch root) (keys_down_to key)

-- ---- folders

-- the folders down to this one, the outermost first; the drive itself is none
abbrev pub folders_down_to : Text → List Text
folders_down_to folder = map path_text (fronts (parts_of (drop 3 folder)))

abbrev pub folder_touch : Text → Touch Entry
folder_touch folder = Set (folder_name folder) (or_new (Folder folder))

abbrev pub folder_with_parents : Text → List (Touch Entry)
folder_with_parents folder = map folder_touch (folders_down_to folder)

-- the folders in which a file or a shortcut lies
abbrev pub parents_of_path : Text → List (Touch Entry)
parents_of_path path = folder_with_parents (up_to_last path)
