-- What is printed stands for one machine alone (this project's own).
use Rattle.std.specs.Prelude.{◌≡◌, ◌^◌, ◌<◌, [], length, Some}
use Rattle.std.specs.FinMap.{get}
use Rattle.mi_text.specs.Maps.{Name}
use Rattle.mi_base.specs.declared.entry.FileEntry.{FileEntry}
use Rattle.mi_base.specs.declared.entry.Entry.{Entry}
use Rattle.mi_base.specs.declared.entry.Entry.TheVariants as entry
use Rattle.mi_base.specs.Spelling.{name_of}
use Rattle.mi_base.specs.Machine.{Machine, Fits}
use Rattle.mi_image.specs.Items.{bytes_of_file}
use Rattle.mi_print.specs.Laws.{IsToldByHash}
use Rattle.mi_show.specs.Prints.{shown}
use Rattle.mi_show.specs.Differences.{different}

-- from a machine to itself nothing differs
abbrev pub SameDiffersNowhere : Type 0
SameDiffersNowhere = (m : Machine) → different m m ≡ []

-- each entry stands at its own name and has a record, and a file has fewer than 2^64 bytes
abbrev pub IsShown : Machine → Type 0
IsShown m = (q : Name) (e : Entry) → get m q ≡ Some e → (name_of e ≡ q) × Fits e × (length (bytes_of_file (Some e)) < 2 ^ 64)

-- two files of one name, of one length and of one MD5 have the same bytes
abbrev pub ToldByHash : Machine → Machine → Type 0
ToldByHash m n = (q : Name) (f g : FileEntry) → get m q ≡ Some (entry.File f) → get n q ≡ Some (entry.File g) → IsToldByHash f g

-- and where nothing differs the machines are one
abbrev pub NothingDiffersInOne : Type 0
NothingDiffersInOne = (m n : Machine) → IsShown m → IsShown n → ToldByHash m n → different m n ≡ [] → m ≡ n

-- and so are two machines with one print
abbrev pub PrintsAreExact : Type 0
PrintsAreExact = (m n : Machine) → IsShown m → IsShown n → ToldByHash m n → shown m ≡ shown n → m ≡ n
