-- While the tables of a folder are loaded into a package.
use Rattle.std.specs.Prelude.{◌≡◌, ℕ, false, if◌then◌else◌, List, Option, None}
use Rattle.std.specs.Str.{bytes_eq}
use Rattle.mi_text.specs.Maps.{Name}
use Rattle.mi_schema.specs.declared.package.Package.{Package}
use Rattle.mi_rows.specs.Rows.{Content, table_fault, table_rows}
use Rattle.mi_schema.specs.RowsOf.{HoldsAll}
use Rattle.mi_rows.specs.Typed.{keyed}
use Rattle.mi_schema.specs.Checks.{tables_fault}
use Rattle.mi_schema.specs.declared.known.Known.{Known}
use Rattle.mi_schema.specs.declared.known.Known.TheVariants as of
use Rattle.mi_schema.specs.Tables.{Listed, Loaded, Refused, tables, layout_of}
use Rattle.mi_rows.specs.Columns.{Table}
use Rattle.mi_rows.specs.Values.{Row}

-- some file has no fault of this table; where the source tells, it is this one
pub record IsRight (told : Type 0) (file : Option (List ℕ)) (t : Table) : Type 0 where
  pub found : Option (List ℕ)
  pub same : told → found ≡ file
  pub right : table_fault t found ≡ None

-- and these are its rows, each behind its key
pub record AreRead {K R : Type 0} (key : Row → K) (row : Row → R) (told : Type 0) (file : Option (List ℕ)) (t : Table) (entries : List (K × R)) : Type 0 where
  pub found : Option (List ℕ)
  pub same : told → found ≡ file
  pub right : table_fault t found ≡ None
  pub are : entries ≡ keyed key row (table_rows t found)

-- the content with a file in its place
abbrev pub with_file : Content → Name → Option (List ℕ) → Content
with_file content table file = λ name. if bytes_eq name table then file else content name

-- a refused table has not the name of a known one
abbrev pub IsOther : Listed → Type 0
IsOther (Loaded k) = Unit {0}
IsOther (Refused name) = (k : Known) → bytes_eq (layout_of k).name name ≡ false

-- a known table of the second of the two lists in which the program goes over them
abbrev pub IsLate : Known → Type 0
IsLate of.InstallExecuteSequence = Unit {0}
IsLate of.LaunchCondition = Unit {0}
IsLate of.MsiFileHash = Unit {0}
IsLate of.Property = Unit {0}
IsLate of.Registry = Unit {0}
IsLate of.RemoveFile = Unit {0}
IsLate of.RemoveRegistry = Unit {0}
IsLate of.Shortcut = Unit {0}
IsLate of.SummaryInformation = Unit {0}
IsLate of.Upgrade = Unit {0}
IsLate other = ⊥

-- some file without a fault has been put into the package
pub record IsPut (told : Type 0) (content : Content) (t : Table) (old new : Package) : Type 0 where
  pub found : Option (List ℕ)
  pub same : told → found ≡ content t.name
  pub right : table_fault t found ≡ None
  pub holds : (c : Content) → HoldsAll old c → HoldsAll new (with_file c t.name found)

-- the package holds the rows of some files without a fault, which are those of the folder, where the source tells
pub record AreLoaded (told : Type 0) (content : Content) (p : Package) : Type 0 where
  pub found : Content
  pub same : told → found ≡ content
  pub right : tables_fault found tables ≡ None
  pub holds : HoldsAll p found
