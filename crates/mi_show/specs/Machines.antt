-- The machine of an image that was scanned (this project's own).
use Rattle.std.specs.Prelude.{ℕ, List, [], ◌∷◌, ◌++◌, Option, Some, None}
use Rattle.std.specs.List.{filter_map}
use Rattle.std.specs.FinMap.{get}
use Rattle.md5.specs.Md5.{md5}
use Rattle.mi_text.specs.Maps.{Name, Map}
use Rattle.mi_base.specs.declared.entry.FileHead.{FileHead}
use Rattle.mi_base.specs.Names.{file_name}
use Rattle.mi_base.specs.Machine.{Machine}
use Rattle.mi_image.specs.Items.{Items, AreThere, bytes_of_file}
use Rattle.mi_image.specs.Lookups.{head_in}
use Rattle.mi_print.specs.Lines.{head_details}
use Rattle.mi_print.specs.Trees.{path_lines}
use Rattle.mi_print_looks.specs.Machines.{no_files}

-- the bytes of the files of an image are there over the map that was scanned
abbrev pub IsScanned : Map (List ℕ) → Items → Type 0
IsScanned held items = AreThere held no_files items

-- ---- files by their heads

-- the lines of a file of a machine, by its head
abbrev pub head_lines : Machine → List ℕ → FileHead → List ℕ
head_lines m former h = path_lines former h.shown ++ head_details h (md5 (bytes_of_file (get m (file_name h.shown))))

-- and where there may be none; the path behind whose lines the next ones stand
abbrev pub lines_after : Machine → List ℕ → Option FileHead → List ℕ
lines_after m former None = []
lines_after m former (Some h) = head_lines m former h

abbrev pub path_after : List ℕ → Option FileHead → List ℕ
path_after former None = former
path_after former (Some h) = h.shown

unfoldable pub heads_tree : Machine → List ℕ → List FileHead → List ℕ
heads_tree m former [] = []
heads_tree m former (h ∷ hs) = head_lines m former h ++ heads_tree m h.shown hs

-- the heads of the files that stand at these names
abbrev pub heads_of : Items → List Name → List FileHead
heads_of items names = filter_map (λ q. head_in (get items q)) names
