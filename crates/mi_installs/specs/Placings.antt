-- Coming rows of File with their paths, as the program keeps them. (File Table.)
use Rattle.std.specs.Prelude.{◌≡◌, true, IsTrue, IfSome}
use Rattle.mi_text.specs.Path.{is_file_path}
use Rattle.mi_schema.specs.declared.typed_rows.FileRow.{FileRow}
use Rattle.mi_rows.specs.Texts.{are_languages}
use Rattle.mi_model.specs.InstallFiles as model
use Rattle.mi_installs.specs.declared.placed.Placed.{Placed}

-- a row with its path, as the model has it
abbrev pub as_placed : Placed → model.Placed
as_placed p = record { row = p.row.now; path = p.path }

-- its path is a file's
abbrev pub HasFilePath : Placed → Type 0
HasFilePath p = IsTrue (is_file_path p.path)

-- a row states languages as its column asks for them, if any
abbrev pub HaveLanguages : FileRow → Type 0
HaveLanguages r = IfSome r.language (λ text. are_languages text ≡ true)

abbrev pub HasLanguages : Placed → Type 0
HasLanguages p = HaveLanguages p.row.now
