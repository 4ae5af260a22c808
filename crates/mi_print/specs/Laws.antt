-- What is printed stands for one entry alone (this project's own).
use Rattle.std.specs.Prelude.{◌≡◌, ℕ, ◌^◌, ◌<◌, List, [], length}
use Rattle.std.specs.List.{AllByRecursion}
use Rattle.md5.specs.Md5.{md5}
use Rattle.mi_base.specs.declared.entry.FileEntry.{FileEntry}
use Rattle.mi_base.specs.declared.entry.Entry.{Entry}
use Rattle.mi_base.specs.declared.entry.Entry.TheVariants as entry
use Rattle.mi_base.specs.Machine.{Fits}
use Rattle.mi_print.specs.Trees.{tree}
use Rattle.mi_print.specs.Entries.{other_line}

-- the kinds of entries, by the letters of their names
abbrev pub letter : Entry → ℕ
letter (entry.File f) = 102
letter (entry.Folder t) = 100
letter (entry.Value k v) = 118
letter (entry.Key r t) = 107
letter (entry.Shortcut s) = 115
letter (entry.Variable v) = 110
letter (entry.Client c) = 99
letter (entry.Product p) = 112
letter (entry.System p t) = 121

abbrev pub IsFile : Entry → Type 0
IsFile (entry.File f) = Unit {0}
IsFile other = ⊥

-- two entries of one kind with one line are one, files aside
abbrev pub LinesAreExact : Type 0
LinesAreExact = (e f : Entry) → Fits e → Fits f → ¬ IsFile e → letter e ≡ letter f → other_line e ≡ other_line f → e ≡ f

-- a file that has a record, and fewer than 2^64 bytes
abbrev pub IsSmallFile : FileEntry → Type 0
IsSmallFile f = Fits (entry.File f) × (length f.bytes < 2 ^ 64)

-- if they have one length and one MD5 they have the same bytes
abbrev pub IsToldByHash : FileEntry → FileEntry → Type 0
IsToldByHash f g = length f.bytes ≡ length g.bytes → md5 f.bytes ≡ md5 g.bytes → f.bytes ≡ g.bytes

-- Two lists of files with one tree are one, where of these files those of one length and one MD5 have the same bytes.
abbrev pub TreesAreExact : Type 0
TreesAreExact =
    (fs gs : List FileEntry) → AllByRecursion IsSmallFile fs → AllByRecursion IsSmallFile gs
    → AllByRecursion (λ f. AllByRecursion (λ g. IsToldByHash f g) gs) fs
    → tree [] fs ≡ tree [] gs → fs ≡ gs
