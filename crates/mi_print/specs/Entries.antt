-- The line of an entry that isn't a file (this project's own).
use Rattle.std.specs.Prelude.{ℕ, List, [], ◌∷◌, ◌++◌}
use Rattle.mi_base.specs.declared.entry.Entry.{Entry}
use Rattle.mi_base.specs.declared.entry.Entry.TheVariants as entry
use Rattle.mi_print.specs.Lines.{product_line, folder_line, shortcut_line, variable_line, client_line, system_line}
use Rattle.mi_print.specs.Registry.{key_text, key_line, value_line}

-- of a value of the registry, behind its key
unfoldable pub other_line : Entry → List ℕ
other_line (entry.File f) = []
other_line (entry.Folder shown) = folder_line shown
other_line (entry.Value k v) = key_text k.root k.key ++ 32 ∷ value_line k.shown v
other_line (entry.Key root shown) = key_line root shown
other_line (entry.Shortcut s) = shortcut_line s
other_line (entry.Variable v) = variable_line v
other_line (entry.Client c) = client_line c
other_line (entry.Product p) = product_line p
other_line (entry.System property text) = system_line property text
