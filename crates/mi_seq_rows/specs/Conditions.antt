-- A row by its condition. (InstallExecuteSequence table, Condition.)
use Rattle.std.specs.Prelude.{Option, Some, None, if◌then◌else◌}
use Rattle.mi_text.specs.Lookups.{Lookups}
use Rattle.mi_schema.specs.declared.typed_rows.InstallExecuteSequenceRow.{InstallExecuteSequenceRow}
use Rattle.mi_model.specs.Conditions.{holds}

-- a row that holds
abbrev pub holding : Lookups → Option InstallExecuteSequenceRow → Option InstallExecuteSequenceRow
holding L None = None
holding L (Some r) = if holds L r.condition then Some r else None
