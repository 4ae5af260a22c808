-- The key path that ProcessComponents records, by what phases ask. (ProcessComponents Action; Component Table, KeyPath.)
use Rattle.std.specs.Prelude.{◌≡◌, ℕ, Bool, if◌then◌else◌, [], ◌∷◌, codes, Option, Some, None, is_some, option_map, Result, Ok, Err}
use Rattle.mi_text.specs.Maps.{Name}
use Rattle.mi_text.specs.Lookups.{Lookups}
use Rattle.mi_base.specs.declared.answers.Fault.{Fault}
use Rattle.mi_base.specs.declared.answers.Fault.TheVariants.{BadPath}
use Rattle.mi_schema.specs.declared.typed_rows.ComponentRow.{ComponentRow}
use Rattle.mi_schema.specs.declared.typed_rows.FileRow.{FileRow}
use Rattle.mi_schema.specs.declared.typed_rows.RegistryRow.{RegistryRow}
use Rattle.mi_schema.specs.TableRows.{Rows, Numbered, numbered_from, row_of, component_row_of}
use Rattle.mi_rows.specs.Values.{lacks}
use Rattle.mi_model.specs.Texts.{Text}
use Rattle.mi_model.specs.World.{World, RowEffect}
use Rattle.mi_model.specs.ProcessComponents.{processed}
use Rattle.mi_records.specs.declared.error.PlanError.{PlanError}
use Rattle.mi_records.specs.declared.error.PlanError.TheVariants as error
use Rattle.mi_records.specs.Choices.{Choices}

-- it is the row of its key
abbrev pub IsOwn : Rows → ComponentRow → Type 0
IsOwn rows r = component_row_of rows r.component ≡ Some r

-- the path of the row of File with this number; a path is never empty, so the empty text tells one past the limits
abbrev pub path_told : Text → ℕ → Result Text Fault
path_told [] number = Err (BadPath (codes "File") number)
path_told (b ∷ bs) number = Ok (b ∷ bs)

-- the number of the row of File of a key
abbrev pub file_number : Rows → Name → Option ℕ
file_number rows key = option_map (λ (n : Numbered FileRow). n.number) (row_of (λ (n : Numbered FileRow). n.row.file) (numbered_from 1 rows.file) key)

-- a row of Registry has this key
abbrev pub is_value : Rows → Name → Bool
is_value rows key = is_some (row_of (λ (r : RegistryRow). r.registry) rows.registry key)

-- of a file, by the directories as they stand, and else of the component's folder
abbrev pub file_told : Lookups → ComponentRow → Name → Option ℕ → Result Text Fault
file_told L r key (Some number) = path_told (L.file key) number
file_told L r key None = Ok (L.folder r.component)

-- of a value, as CostFinalize found it
abbrev pub value_told : Rows → Lookups → Choices → ComponentRow → Name → Text
value_told rows L c r key = if is_value rows key then c.found r.component else L.folder r.component

abbrev pub key_told : Rows → Lookups → Choices → ComponentRow → Name → Result Text Fault
key_told rows L c r key = if lacks 4 r.attributes then file_told L r key (file_number rows key) else Ok (value_told rows L c r key)

-- by the column KeyPath
abbrev pub told : Rows → Lookups → Choices → ComponentRow → Option Name → Result Text Fault
told rows L c r None = Ok (L.folder r.component)
told rows L c r (Some key) = key_told rows L c r key

-- the error is this fault, or want of memory
abbrev pub IsFault : Fault → PlanError → Type 0
IsFault f error.NoMemory = Unit {0}
IsFault f (error.Fault g) = g ≡ f

-- what a row of Component does
abbrev pub component_effect : World → Numbered ComponentRow → RowEffect
component_effect w n m = processed w n.row
