-- Names of files and folders in the fields of a package (Filename; WildCardFilename; Directory table, DefaultDir).
use Rattle.std.specs.Prelude.{ℕ, ◌==◌, ◌&&◌, ◌||◌, not, Bool, if◌then◌else◌, List, length, codes}
use Rattle.std.specs.List.{list_any, list_all, before_first, after_first}
use Rattle.std.specs.Str.{bytes_eq}
use Rattle.mi_text.specs.Path.{good_byte, is_backslash, is_part}

-- what stands behind the first such byte, or all where there is none
abbrev pub behind_first : (ℕ → Bool) → List ℕ → List ℕ
behind_first mark text = if list_any mark text then after_first mark text else text

-- ---- the parts of a field

-- of `short|long` the short name; a name alone is both
abbrev pub short_name : List ℕ → List ℕ
short_name text = before_first (λ b. b == 124) text

-- of `short|long` the long name
abbrev pub long_name : List ℕ → List ℕ
long_name text = behind_first (λ b. b == 124) text

-- of `target:source` the target; one alone is both
abbrev pub target_part : List ℕ → List ℕ
target_part text = before_first (λ b. b == 58) text

-- of `target:source` the source
abbrev pub source_part : List ℕ → List ℕ
source_part text = behind_first (λ b. b == 58) text

-- ---- which texts are such fields

-- a name: its short and its long one name one file each (Filename)
abbrev pub is_file_name : List ℕ → Bool
is_file_name text = is_part (short_name text) && is_part (long_name text)

-- a byte of a name, or one that stands for others
abbrev pub may_stand : ℕ → Bool
may_stand b = (good_byte b && not (is_backslash b)) || (b == 42) || (b == 63)

-- the part of a pattern: a name in which `*` and `?` may stand
abbrev pub is_pattern_part : List ℕ → Bool
is_pattern_part p = not (length p == 0) && not (bytes_eq p (codes ".")) && not (bytes_eq p (codes "..")) && list_all may_stand p

-- a pattern of names (WildCardFilename)
abbrev pub is_file_pattern : List ℕ → Bool
is_file_pattern text = is_pattern_part (short_name text) && is_pattern_part (long_name text)

-- a name, or `.` for the parent's folder
abbrev pub is_folder_name : List ℕ → Bool
is_folder_name text = bytes_eq text (codes ".") || is_file_name text

-- a folder's name at the target and at the source (Directory table, DefaultDir)
abbrev pub is_default_dir : List ℕ → Bool
is_default_dir text = is_folder_name (target_part text) && is_folder_name (source_part text)
