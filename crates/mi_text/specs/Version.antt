-- Versions of files and products (File Versioning Rules; ProductVersion property).
use Rattle.std.specs.Prelude.{ℕ, ◌==◌, nat_lt, nat_le, ◌&&◌, not, if◌then◌else◌, List, [], ◌∷◌, length, slice_index, Option, Some, None, option_map, option_and_then}
use Rattle.std.specs.Char.{is_ascii_digit}
use Rattle.std.specs.List.{slice_split, list_all}
use Rattle.std.specs.Str.Parse.{digits_value}
use Rattle.std.specs.declared.cmp.Ordering.{Ordering}
use Rattle.std.specs.Ordering.{nat_cmp, ordering_then}
use Rattle.mi_text.specs.declared.version.Version.{Version}

-- the number of one part: decimal digits, as many as stand there, that write at most 65535
abbrev pub part_number : List ℕ → Option ℕ
part_number digits =
    if list_all is_ascii_digit digits && not (length digits == 0) && nat_lt (digits_value 10 digits) 65536 then Some (digits_value 10 digits) else None

-- the numbers of all parts, where each has one
abbrev pub numbers_of : List (List ℕ) → Option (List ℕ)
numbers_of [] = Some []
numbers_of (part ∷ parts) = option_and_then (λ n. option_map (λ (ns : List ℕ). n ∷ ns) (numbers_of parts)) (part_number part)

-- the parts that points join
abbrev pub version_parts : List ℕ → List (List ℕ)
version_parts text = slice_split (λ b. b == 46) text

-- at most four numbers; missing ones are 0
abbrev pub version_from : List ℕ → Option Version
version_from ns =
    if nat_le (length ns) 4
    then Some (record { major = slice_index ns 0; minor = slice_index ns 1; build = slice_index ns 2; revision = slice_index ns 3 })
    else None

-- the version that a text writes
abbrev pub version_of : List ℕ → Option Version
version_of text = option_and_then version_from (numbers_of (version_parts text))

-- by the four numbers in order
abbrev pub version_cmp : Version → Version → Ordering
version_cmp a b =
    ordering_then (nat_cmp a.major b.major) (ordering_then (nat_cmp a.minor b.minor) (ordering_then (nat_cmp a.build b.build) (nat_cmp a.revision b.revision)))
