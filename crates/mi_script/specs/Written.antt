-- The written form of a script. Numbers are big-endian, and every length and count has eight bytes, so that every script has
-- a written form. (This project's own.)
use Rattle.std.specs.Prelude.{ℕ, List, ◌∷◌, ◌++◌, length}
use Rattle.std.specs.List.{flat_map}
use Rattle.std.specs.Int.{w16, w32, w64, to_be_bytes}
use Rattle.mi_base.specs.declared.entry.FileHead.{FileHead}
use Rattle.mi_base.specs.Fields.{version}
use Rattle.mi_script.specs.declared.rec.Rec.{Rec}
use Rattle.mi_script.specs.declared.rec.Rec.TheVariants.{Put, Drop, Copy, Dup}

-- a length, and as many bytes
abbrev pub long : List ℕ → List ℕ
long bytes = to_be_bytes w64 (length bytes) ++ bytes

-- a count, and as many numbers
abbrev pub long_numbers : List ℕ → List ℕ
long_numbers ns = to_be_bytes w64 (length ns) ++ flat_map (to_be_bytes w16) ns

unfoldable pub written_head : FileHead → List ℕ
written_head h = long h.shown ++ version h.version ++ long_numbers h.languages ++ to_be_bytes w64 h.created ++ to_be_bytes w64 h.modified ++ to_be_bytes w32 h.attributes ++ to_be_bytes w64 h.length

-- a kind, the name, and what the kind has
unfoldable pub written_rec : Rec → List ℕ
written_rec (Put name bytes) = 1 ∷ long name ++ long bytes
written_rec (Drop name) = 2 ∷ long name
written_rec (Copy name h file path n) = 3 ∷ long name ++ long (written_head h) ++ long file ++ long path ++ to_be_bytes w64 n
written_rec (Dup name h from) = 4 ∷ long name ++ long (written_head h) ++ long from

-- the number of the records, and the records
unfoldable pub written_script : List Rec → List ℕ
written_script rs = to_be_bytes w64 (length rs) ++ flat_map written_rec rs
