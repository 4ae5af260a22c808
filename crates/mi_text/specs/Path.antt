-- Paths of the drive (this project's own spelling of Windows paths).
use Rattle.std.specs.Prelude.{◌≡◌, true, ℕ, ◌==◌, ◌-◌, nat_lt, nat_le, ◌&&◌, ◌||◌, not, Bool, false, if◌then◌else◌, List, [], ◌∷◌, ◌++◌, length, take, Option, Some, None, Result, Ok, Err, codes}
use Rattle.std.specs.List.{slice_split, list_any, list_all}
use Rattle.std.specs.Str.{bytes_eq}
use Rattle.mi_text.specs.declared.path.PathFault.{PathFault}
use Rattle.mi_text.specs.declared.path.PathFault.TheVariants.{NotAbsolute, BadPart, Length}

abbrev pub good_byte : ℕ → Bool
good_byte b = nat_le 32 b && not ((b == 47) || (b == 58) || (b == 42) || (b == 63) || (b == 34) || (b == 60) || (b == 62) || (b == 124))

abbrev pub good_part : List ℕ → Bool
good_part p = if bytes_eq p (codes ".") then false else if bytes_eq p (codes "..") then false else list_all good_byte p

-- the text behind the drive
abbrev pub drive_rest : List ℕ → Option (List ℕ)
drive_rest (c ∷ d ∷ []) = if ((c == 67) || (c == 99)) && (d == 58) then Some [] else None
drive_rest (c ∷ d ∷ e ∷ rest) = if ((c == 67) || (c == 99)) && (d == 58) && (e == 92) then Some rest else None
drive_rest text = None

-- empty parts are dropped, and each other one ends with a backslash
abbrev pub path_on : List ℕ → List (List ℕ) → List ℕ
path_on path [] = path
path_on path (p ∷ ps) = path_on (if length p == 0 then path else path ++ p ++ 92 ∷ []) ps

abbrev pub path_text : List (List ℕ) → List ℕ
path_text parts = path_on (codes "C:\\") parts

abbrev pub folder_in : List (List ℕ) → Result (List ℕ) PathFault
folder_in parts = if list_all good_part parts then (if nat_lt 259 (length (path_text parts)) then Err Length else Ok (path_text parts)) else Err BadPart

abbrev pub folder_at : Option (List ℕ) → Result (List ℕ) PathFault
folder_at None = Err NotAbsolute
folder_at (Some rest) = folder_in (slice_split (λ b. b == 92) rest)

-- the folder that a text names, or the first fault
abbrev pub folder_of : List ℕ → Result (List ℕ) PathFault
folder_of text = folder_at (drive_rest text)

abbrev pub is_backslash : ℕ → Bool
is_backslash b = b == 92

-- the name of one folder or file: not empty, without a backslash, and good
abbrev pub is_part : List ℕ → Bool
is_part p = not (length p == 0) && list_all (λ b. not (is_backslash b)) p && good_part p

-- a path has at most 259 bytes
abbrev pub fitted : List ℕ → Result (List ℕ) PathFault
fitted path = if nat_lt 259 (length path) then Err Length else Ok path

-- the folder of that name in a folder
abbrev pub below_of : List ℕ → List ℕ → Result (List ℕ) PathFault
below_of folder part = if is_part part then fitted (folder ++ part ++ 92 ∷ []) else Err BadPart

-- the file of that name in a folder
abbrev pub file_of : List ℕ → List ℕ → Result (List ℕ) PathFault
file_of folder part = if is_part part then fitted (folder ++ part) else Err BadPart

-- a text up to and with its last backslash, or nothing where it has none
abbrev pub up_to_last : List ℕ → List ℕ
up_to_last [] = []
up_to_last (b ∷ bs) = if list_any is_backslash (b ∷ bs) then b ∷ up_to_last bs else []

-- what stands behind the last backslash, or all where there is none
abbrev pub last_part : List ℕ → List ℕ
last_part [] = []
last_part (b ∷ bs) = if list_any is_backslash (b ∷ bs) then last_part bs else b ∷ bs

-- up to and with the last backslash that isn't the last byte; the drive for itself
unfoldable pub parent_of : List ℕ → List ℕ
parent_of path = if bytes_eq path (codes "C:\\") then path else up_to_last (take (length path - 1) path)

abbrev pub is_read_as : List ℕ → Result (List ℕ) PathFault → Bool
is_read_as path (Ok p) = bytes_eq p path
is_read_as path (Err f) = false

-- a folder's canonical path: the text that is read as itself
unfoldable pub is_folder_path : List ℕ → Bool
is_folder_path path = is_read_as path (folder_of path)

-- a file's canonical path: a folder's, and the file's name
unfoldable pub is_file_path : List ℕ → Bool
is_file_path path = is_folder_path (up_to_last path) && is_part (last_part path) && nat_le (length path) 259

unfoldable pub is_path : List ℕ → Bool
is_path path = is_folder_path path || is_file_path path

-- the text of names, each of which ends with a backslash
abbrev pub joined : List (List ℕ) → List ℕ
joined [] = []
joined (p ∷ ps) = p ++ 92 ∷ joined ps

-- what stands behind the drive in a folder's canonical path: names that are joined
abbrev pub AreJoinedParts : List ℕ → Type 0
AreJoinedParts rest = (parts : List (List ℕ)) × (list_all is_part parts ≡ true) × (rest ≡ joined parts)
