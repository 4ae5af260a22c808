-- The copy of a file, as the program makes it. (DuplicateFile Table; DuplicateFiles Action.)
use Rattle.std.specs.Prelude.{ℕ, List, [], ◌∷◌, codes, Option, Ok}
use Rattle.std.specs.Option.{option_map_or}
use Rattle.mi_base.specs.declared.entry.FileEntry.{FileEntry}
use Rattle.mi_base.specs.declared.entry.FileHead.{FileHead}
use Rattle.mi_base.specs.declared.entry.Entry.{Entry}
use Rattle.mi_base.specs.declared.entry.Entry.TheVariants as entry
use Rattle.mi_base.specs.Machine.{file_at}
use Rattle.mi_base.specs.Names.{file_name}
use Rattle.mi_changes.specs.Touches.{Touch}
use Rattle.mi_schema.specs.declared.typed_rows.DuplicateFileRow.{DuplicateFileRow}
use Rattle.mi_model.specs.DuplicateFiles.{copies}
use Rattle.mi_model.specs.FilePaths.{original_path, right_path}
use Rattle.mi_model.specs.Refusals.{◌>>=◌}
use Rattle.mi_model.specs.Texts.{Text}
use Rattle.mi_model.specs.World.{World, RowEffect}
use Rattle.mi_steps.specs.Follows.{put_touch}

-- the head of a copy at another path, made at this moment
abbrev pub copied_head : List ℕ → ℕ → FileHead → FileHead
copied_head path moment h = record { shown = path; version = h.version; languages = h.languages; created = moment; modified = moment; attributes = h.attributes; length = h.length }

-- the copy itself
abbrev pub copied_at : List ℕ → ℕ → FileEntry → FileEntry
copied_at path moment f = record { shown = path; version = f.version; languages = f.languages; created = moment; modified = moment; attributes = f.attributes; bytes = f.bytes }

-- the copy of a file is put; nothing where there is none
abbrev pub copy_of_file : List ℕ → ℕ → Option FileEntry → List (Touch Entry)
copy_of_file path moment o = option_map_or (λ (f : FileEntry). put_touch (file_name path) (entry.File (copied_at path moment f)) ∷ []) o []

-- what the row with this number does whose copy has this path
abbrev pub copied_to : World → ℕ → DuplicateFileRow → Text → RowEffect
copied_to w number r path m = right_path (codes "DuplicateFile") number (original_path w r) >>= λ original. Ok (copies w path original (file_at m original))
