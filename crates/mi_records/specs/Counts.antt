-- What becomes of the counts of shared files, as the program keeps it. (Component Table, Attributes, msidbComponentAttributesSharedDllRefCount.)
use Rattle.std.specs.Prelude.{if◌then◌else◌, Option, None, option_map}
use Rattle.mi_text.specs.Maps.{Name}
use Rattle.mi_schema.specs.declared.typed_rows.ComponentRow.{ComponentRow}
use Rattle.mi_model.specs.World.{World}
use Rattle.mi_model.specs.Asked.{keeps}
use Rattle.mi_model.specs.CountRows.{counted_path}
use Rattle.mi_model.specs.SharedCounts.{count_name}

-- the name of the count that a kept component guards
abbrev pub guard_of_count : World → ComponentRow → Option Name
guard_of_count w c = if keeps w c.component then option_map count_name (counted_path w c) else None
