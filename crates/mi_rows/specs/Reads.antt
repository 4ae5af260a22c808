-- What reading a package, a table and a field answers, and what the program holds of a table while it reads its rows.
use Rattle.std.specs.Prelude.{◌≡◌, ℕ, Bool, true, false, if◌then◌else◌, List, [], String, Option, Some, None, Result, Ok, Err}
use Rattle.std.specs.HashSet.{HashSet, contains_text}
use Rattle.std.specs.BTreeSet.{contains}
use Rattle.std.specs.List.{list_any, slice_index_or}
use Rattle.std.specs.Ordering.{nat_cmp}
use Rattle.std.specs.declared.alloc.Global.{Global}
use Rattle.mi_text.specs.Maps.{Name}
use Rattle.mi_base.specs.declared.answers.Fault.{Fault}
use Rattle.mi_source.specs.declared.fault.SrcFault.{SrcFault}
use Rattle.mi_source.specs.declared.fault.SrcFault.TheVariants as source
use Rattle.mi_idt.specs.Cells as raw
use Rattle.mi_idt.specs.Means.{meaning}
use Rattle.mi_idt.specs.declared.table.Table.{Table as Spelled}
use Rattle.mi_rows.specs.declared.field.Bad.{Bad}
use Rattle.mi_rows.specs.declared.field.FieldError.{FieldError}
use Rattle.mi_rows.specs.declared.field.FieldError.TheVariants as error
use Rattle.mi_rows.specs.declared.column.Kind.{Kind}
use Rattle.mi_rows.specs.declared.column.Kind.TheVariants as kind
use Rattle.mi_rows.specs.declared.column.Rule.{Rule}
use Rattle.mi_rows.specs.declared.column.Rule.TheVariants.{VersionOrKey}
use Rattle.mi_rows.specs.declared.error.LoadError.{LoadError}
use Rattle.mi_rows.specs.declared.error.LoadError.TheVariants.{NoMemory, Source, Table as TableFault}
use Rattle.mi_rows.specs.declared.field.Field.{Field}
use Rattle.mi_rows.specs.declared.rule.Seen.{Seen}
use Rattle.mi_rows.specs.declared.take.Take.{Take}
use Rattle.mi_rows.specs.Fields.{values_of, last_condition}
use Rattle.mi_rows.specs.Rows.{keys_of, rows_in}
use Rattle.mi_rows.specs.Columns.{Table}
use Rattle.mi_rows.specs.Values.{Row, is_key_in, is_root, has_code}

-- ---- answers of a package and a table

abbrev pub error_of : SrcFault → LoadError
error_of source.NoMemory = NoMemory
error_of source.Failed = Source

-- why there is no value: `failed` says that the source's count rose; want of memory may come at any time
abbrev pub Fails : Type 0 → Option Fault → LoadError → Type 0
Fails failed fault NoMemory = Unit {0}
Fails failed fault Source = failed
Fails failed fault (TableFault f) = fault ≡ Some f

-- a value that is as P says, where there is no fault, or why there is none
abbrev pub Answers : {X : Type 0} → Type 0 → Option Fault → (X → Type 0) → Result X LoadError → Type 0
Answers failed fault P (Ok x) = (fault ≡ None) × P x
Answers failed fault P (Err e) = Fails failed fault e

-- the same of a source that doesn't tell its content
abbrev pub IsCounted : {X : Type 0} → Type 0 → Result X LoadError → Type 0
IsCounted failed (Err Source) = failed
IsCounted failed other = Unit {0}

-- ---- answers of a field

-- why there is no value; want of memory may come at any time
abbrev pub IsBad : Option Bad → FieldError → Type 0
IsBad fault error.NoMemory = Unit {0}
IsBad fault (error.Bad b) = fault ≡ Some b

-- this value, where nothing is wrong with it, or what is wrong
abbrev pub ReadsAs : {X : Type 0} → Option Bad → X → Result X FieldError → Type 0
ReadsAs fault value (Ok x) = (fault ≡ None) × (x ≡ value)
ReadsAs fault value (Err e) = IsBad fault e

-- a field of a column of this kind: an integer column holds integers, any other texts
abbrev pub FitsKind : Kind → raw.Cell → Type 0
FitsKind kind raw.Nothing = Unit {0}
FitsKind kind.Integer (raw.Text text) = ⊥
FitsKind kind.Integer (raw.Number z) = Unit {0}
FitsKind other (raw.Text text) = Unit {0}
FitsKind other (raw.Number z) = ⊥

-- want of memory, or this fault
abbrev pub Refuses : LoadError → Fault → Type 0
Refuses NoMemory fault = Unit {0}
Refuses Source fault = ⊥
Refuses (TableFault f) fault = f ≡ fault

-- the error of a value, whose fault is given by what is wrong with it
abbrev pub RefusesAs : FieldError → (Bad → Fault) → LoadError → Type 0
RefusesAs error.NoMemory at e = e ≡ NoMemory
RefusesAs (error.Bad b) at e = Refuses e (at b)

-- ---- what is held

-- the fields of a row, from 0
abbrev pub raw_row : Spelled → ℕ → List raw.Cell
raw_row t number = slice_index_or (meaning t).rows number []

-- the texts are the keys
abbrev pub KnowsKeys : {S : Type 0} → HashSet (String Global) S → List Name → Type 0
KnowsKeys texts keys = (q : Name) → contains_text texts q ≡ is_key_in keys q

-- the rule asks whether a text is a key of its table
abbrev pub asks_key : Rule → Bool
asks_key VersionOrKey = true
asks_key other = false

-- the keys of a table where a column asks for them, and none elsewhere
abbrev pub keys_asked : Table → raw.TableValue → List Name
keys_asked t v = if list_any (λ c. asks_key c.rule) t.columns then keys_of (rows_in t v) else []

-- the fields that are judged are these values, the condition among them is kept, and no memory was wanting
pub record IsDraft (fields : List Field) (take : Take) (row : Row) : Type 0 where
  pub values : values_of fields ≡ row
  pub condition : take.condition ≡ last_condition row
  pub memory : take.failed ≡ false

-- of the rows before
pub record IsSeen (seen : Seen) (before : List Row) : Type 0 where
  pub root : seen.root ≡ list_any is_root before
  pub codes : (n : ℕ) → contains nat_cmp seen.codes n ≡ list_any (has_code n) before
