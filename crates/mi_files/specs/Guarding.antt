-- The files that rows guard, as the program gathers them. (Guards are this project's own.)
use Rattle.std.specs.Prelude.{Bool, Option, None, option_map, if◌then◌else◌}
use Rattle.std.specs.Option.{option_flatten}
use Rattle.mi_text.specs.Maps.{Name}
use Rattle.mi_base.specs.Names.{file_name}
use Rattle.mi_schema.specs.declared.typed_rows.FileRow.{FileRow}
use Rattle.mi_schema.specs.declared.typed_rows.DuplicateFileRow.{DuplicateFileRow}
use Rattle.mi_model.specs.World.{World}
use Rattle.mi_model.specs.Asked.{keeps}
use Rattle.mi_model.specs.ComponentRows.{is_guarded_by}
use Rattle.mi_model.specs.FilePaths.{path_of_row, copy_path, file_named, copy_named}

-- the file that a row of a kept component names
abbrev pub file_guard : World → FileRow → Option Name
file_guard w r = if keeps w r.component then option_map file_name (path_of_row w r) else None

abbrev pub copy_guard : World → DuplicateFileRow → Option Name
copy_guard w r = if keeps w r.component then option_map file_name (option_flatten (copy_path w r)) else None

-- a row of File guards this name
abbrev pub guards_files : World → Name → Bool
guards_files w name = is_guarded_by w (λ (r : FileRow). r.component) (file_named w) w.given.rows.file name

-- a row of DuplicateFile does
abbrev pub guards_copies : World → Name → Bool
guards_copies w name = is_guarded_by w (λ (r : DuplicateFileRow). r.component) (copy_named w) w.given.rows.duplicate_file name
