-- What rows of CreateFolder name, as the program asks. (CreateFolder Table.)
use Rattle.std.specs.Prelude.{if◌then◌else◌, Option, None}
use Rattle.mi_dirs.specs.Places.{Folder, target_of}
use Rattle.mi_schema.specs.declared.typed_rows.CreateFolderRow.{CreateFolderRow}
use Rattle.mi_schema.specs.TableRows.{joined_key}
use Rattle.mi_text.specs.Maps.{Name}
use Rattle.mi_model.specs.World.{World}
use Rattle.mi_model.specs.Asked.{keeps, dirs_of}

-- the key of a row
abbrev pub key_of : CreateFolderRow → Name
key_of r = joined_key r.directory r.component

-- the folder that a row of a kept component names
abbrev pub kept_folder : World → CreateFolderRow → Option Folder
kept_folder w r = if keeps w r.component then target_of (dirs_of w) r.directory else None
