-- Files as a tree (this project's own): a folder has its line before the first file in it, and a file that stands in another folder than the one
-- before begins at the innermost folder in which both stand, as both spell it.
use Rattle.std.specs.Prelude.{ℕ, zero, suc, ◌==◌, if◌then◌else◌, List, [], ◌∷◌, ◌++◌, length, drop, count_by, codes}
use Rattle.mi_text.specs.Path.{up_to_last, is_backslash}
use Rattle.mi_base.specs.declared.entry.FileEntry.{FileEntry}
use Rattle.mi_print.specs.Texts.{escaped_byte, is_escaped_in_tree}
use Rattle.mi_print.specs.Lines.{details}

-- the bytes with which both begin
abbrev pub common : List ℕ → List ℕ → List ℕ
common [] ys = []
common (x ∷ xs) [] = []
common (x ∷ xs) (y ∷ ys) = if x == y then x ∷ common xs ys else []

-- the innermost folder in which both stand
unfoldable pub shared : List ℕ → List ℕ → List ℕ
shared former path = up_to_last (common former path)

-- how many folders a path names
abbrev pub depth : List ℕ → ℕ
depth path = count_by is_backslash path

-- a bar for each folder in which a line stands
abbrev pub bars : ℕ → List ℕ
bars zero = []
bars (suc n) = codes "| " ++ bars n

-- what is left of a path at a depth: each folder ends its line
unfoldable pub branches : ℕ → List ℕ → List ℕ
branches n [] = []
branches n (b ∷ path) =
    if is_backslash b
    then 92 ∷ 10 ∷ bars (suc n) ++ branches (suc n) path
    else escaped_byte is_escaped_in_tree b ++ branches n path

-- the lines of a path, behind those of another
unfoldable pub path_lines : List ℕ → List ℕ → List ℕ
path_lines former path =
    let folder = shared former path in
    bars (depth folder) ++ branches (depth folder) (drop (length folder) path)

-- the lines of files, behind those of a path
unfoldable pub tree : List ℕ → List FileEntry → List ℕ
tree former [] = []
tree former (f ∷ fs) = path_lines former f.shown ++ details f ++ tree f.shown fs
