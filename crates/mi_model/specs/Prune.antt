-- What a phase prunes at its end: the folders, or the keys of the registry, that it left without use.
-- (RemoveFiles Action; RemoveFolders Action; RemoveRegistryValues Action. The rule is this project's own.)
use Rattle.std.specs.Prelude.{ℕ, Bool, true, false, not, ◌||◌, ◌&&◌, if◌then◌else◌, List, [], ◌∷◌, ◌++◌, map, take, drop, nat_eq, codes, Option, Ok}
use Rattle.std.specs.List.{list_any, list_all, filter_map, starts_with}
use Rattle.std.specs.Result.{result_ok}
use Rattle.std.specs.FinMap.{keys}
use Rattle.mi_text.specs.Maps.{Name}
use Rattle.mi_text.specs.Fold.{folded}
use Rattle.mi_text.specs.Path.{folder_of}
use Rattle.mi_base.specs.Names.{digit}
use Rattle.mi_base.specs.Records.{number_of}
use Rattle.mi_dirs.specs.Places.{target_of}
use Rattle.mi_schema.specs.declared.typed_rows.CreateFolderRow.{CreateFolderRow}
use Rattle.mi_changes.specs.Touches.{Clear}
use Rattle.mi_model.specs.World.{World, RowEffect}
use Rattle.mi_model.specs.Asked.{keeps, dirs_of}
use Rattle.mi_model.specs.Settings.{system_properties}

-- ---- the rule

-- A place in a tree, in folded bytes. That of a folder or key ends with a backslash, so what lies below begins with it.
abbrev pub Path : Type 0
Path = List ℕ

-- What a name is in a tree: it holds others, as a folder or a key; it lies in those, as a file or a value; or it is no part of it.
pub data Seat : Type 0 where
  Holder : (path : Path) → Seat
  Leaf : (path : Path) → Seat
  Apart : Seat

-- one of these is the holder, or lies below it
abbrev pub is_on_way : List Path → Path → Bool
is_on_way places holder = list_any (λ place. starts_with nat_eq place holder) places

-- A holder may go though this lies in its tree: this lies elsewhere, or holds and is touched or above a touched one.
abbrev pub lets_go : List Path → Path → Seat → Bool
lets_go touched holder (Holder path) = not (starts_with nat_eq path holder) || is_on_way touched path
lets_go touched holder (Leaf path) = not (starts_with nat_eq path holder)
lets_go touched holder Apart = true

-- A holder goes where it is touched or above a touched one, no protected one is it or lies below it, nothing lies in it, and every
-- holder below it is touched or above a touched one.
abbrev pub seat_goes : (Name → Seat) → List Name → List Path → List Path → Seat → Bool
seat_goes seat held touched protected (Holder path) = is_on_way touched path && not (is_on_way protected path) && list_all (λ other. lets_go touched path (seat other)) held
seat_goes seat held touched protected other = false

unfoldable pub goes : (Name → Seat) → List Name → List Path → List Path → Name → Bool
goes seat held touched protected name = seat_goes seat held touched protected (seat name)

-- the last row of a phase, over the names that are held then
abbrev pub pruning : (Name → Seat) → List Path → List Path → RowEffect
pruning seat touched protected m = Ok (Clear (goes seat (keys m) touched protected) ∷ [])

-- ---- folders, with the files and shortcuts in them

abbrev pub folder_seat : Name → Seat
folder_seat name =
    if starts_with nat_eq name (codes "d/") then Holder (drop 2 name)
    else if starts_with nat_eq name (codes "f/") || starts_with nat_eq name (codes "s/") then Leaf (drop 2 name)
    else Apart

-- the folders that properties of the system name
abbrev pub system_folders : World → List Path
system_folders w = filter_map (λ p. result_ok (folder_of p.1)) (system_properties w.given.former)

-- the folders that rows of CreateFolder of kept components name
abbrev pub kept_folders : World → List Path
kept_folders w = filter_map (λ (r : CreateFolderRow). if keeps w r.component then target_of (dirs_of w) r.directory else Option.None) w.given.rows.create_folder

abbrev pub protected_folders : World → List Path
protected_folders w = codes "C:\\" ∷ system_folders w ++ kept_folders w

-- what goes of the folders where a phase touched these
unfoldable pub prune_folders : World → List Path → RowEffect
prune_folders w touched = pruning folder_seat (map folded touched) (map folded (protected_folders w))

-- ---- keys, with the values in them

-- a key of a root as a place
abbrev pub key_place : ℕ → List ℕ → Path
key_place root key = digit root ∷ folded key ++ 92 ∷ []

-- the key in a value's name, whose first four digits are its length
abbrev pub key_in : List ℕ → List ℕ
key_in (a ∷ b ∷ c ∷ d ∷ rest) = take (number_of a b c d) rest
key_in other = []

-- of a key's or a value's name: the digit of the root, then the key
abbrev pub key_seat : Name → Seat
key_seat (kind ∷ slash ∷ root ∷ rest) =
    if nat_eq kind 107 then Holder (root ∷ rest ++ 92 ∷ [])
    else if nat_eq kind 118 then Leaf (root ∷ key_in rest ++ 92 ∷ [])
    else Apart
key_seat other = Apart
