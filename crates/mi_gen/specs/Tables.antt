-- The tables of the generated package: which they are, and the rows that a file brings.
use Rattle.std.specs.Prelude.{ℕ, ◌%◌, ◌==◌, Bool, true, List, map, filter, codes}
use Rattle.std.specs.List.{range_with_len}
use Rattle.std.specs.FinMap.{insert}
use Rattle.mi_text.specs.Maps.{Name}
use Rattle.mi_source.specs.Paths.{Files}
use Rattle.mi_idt.specs.Cells.{Cell}
use Rattle.mi_schema.specs.declared.known.Known.TheVariants as known
use Rattle.mi_schema.specs.Tables.{layout_of}
use Rattle.mi_rows.specs.Columns.{Table}
use Rattle.mi_model.specs.Selftest.{file_of, properties, features, actions, directories, component, component_of, pair, file, registry}
use Rattle.mi_gen.specs.declared.fixed.FixedTable.{FixedTable}
use Rattle.mi_gen.specs.declared.fixed.FixedTable.TheVariants as fixed
use Rattle.mi_gen.specs.declared.numbered.NumberedTable.{NumberedTable}
use Rattle.mi_gen.specs.declared.numbered.NumberedTable.TheVariants as numbered

-- ---- with the same rows in each package

abbrev pub fixed_file : FixedTable → Name × List ℕ
fixed_file fixed.Property = file_of (layout_of known.Property) properties
fixed_file fixed.Feature = file_of (layout_of known.Feature) features
fixed_file fixed.InstallExecuteSequence = file_of (layout_of known.InstallExecuteSequence) actions
fixed_file fixed.Directory = file_of (layout_of known.Directory) directories

-- ---- with rows for the files

abbrev pub layout : NumberedTable → Table
layout numbered.Component = layout_of known.Component
layout numbered.FeatureComponents = layout_of known.FeatureComponents
layout numbered.File = layout_of known.File
layout numbered.Registry = layout_of known.Registry

abbrev pub numbered_file : NumberedTable → List (List Cell) → Name × List ℕ
numbered_file t rows = file_of (layout t) rows

-- the first file of ten brings the rows of their component
abbrev pub has_row : NumberedTable → ℕ → Bool
has_row numbered.Component i = i % 10 == 0
has_row numbered.FeatureComponents i = i % 10 == 0
has_row numbered.File i = true
has_row numbered.Registry i = true

abbrev pub row : NumberedTable → ℕ → List Cell
row numbered.Component i = component i
row numbered.FeatureComponents i = pair (codes "Main") (component_of i)
row numbered.File i = file i
row numbered.Registry i = registry i

-- the rows for so many files
abbrev pub rows_for : NumberedTable → ℕ → List (List Cell)
rows_for t n = map (row t) (filter (has_row t) (range_with_len 0 n))

abbrev pub file_for : NumberedTable → ℕ → Name × List ℕ
file_for t n = numbered_file t (rows_for t n)

-- ---- files with more of them

abbrev pub with_file : Files → Name × List ℕ → Files
with_file files file = insert files file.0 file.1

abbrev pub with_numbered : Files → ℕ → Files
with_numbered files n =
    with_file (with_file (with_file (with_file files (file_for numbered.Registry n)) (file_for numbered.File n)) (file_for numbered.FeatureComponents n)) (file_for numbered.Component n)

abbrev pub with_fixed : Files → Files
with_fixed files =
    with_file (with_file (with_file (with_file files (fixed_file fixed.Directory)) (fixed_file fixed.InstallExecuteSequence)) (fixed_file fixed.Feature)) (fixed_file fixed.Property)
