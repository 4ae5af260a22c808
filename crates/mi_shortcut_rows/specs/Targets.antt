-- What a shortcut starts. (Shortcut Table, Target and Component_.)
use Rattle.std.specs.Prelude.{Bool, if◌then◌else◌, Option, Some, None}
use Rattle.mi_text.specs.Maps.{Name}
use Rattle.mi_schema.specs.declared.typed_rows.ShortcutRow.{ShortcutRow}

-- the key path of the row's component where its Target is a key of Feature, and of none where it is a text
abbrev pub component_to_start : Bool → ShortcutRow → Option Name
component_to_start is_feature r = if is_feature then Some r.component else None
