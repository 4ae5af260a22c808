-- Which records may be carried out. (This project's own.)
use Rattle.std.specs.Prelude.{◌≡◌, ◌≢◌, ℕ, false, List, length}
use Rattle.std.specs.List.{Contains}
use Rattle.std.specs.FinMap.{get}
use Rattle.mi_text.specs.Maps.{Name}
use Rattle.mi_base.specs.declared.entry.FileHead.{FileHead}
use Rattle.mi_source.specs.Paths.{Files, bytes_or_none}
use Rattle.mi_image.specs.Items.{HeadMayStand}
use Rattle.mi_script.specs.declared.rec.Rec.{Rec}
use Rattle.mi_script.specs.declared.rec.Rec.TheVariants.{Put, Drop, Copy, Dup}
use Rattle.mi_undo.specs.Names.{is_inside}

-- A file is written under the name of its head, a copy with as many bytes as its head states, and a duplicate is that of another file, which is no
-- name of the rollback area.
abbrev pub MayCarry : Rec → Type 0
MayCarry (Put name bytes) = Unit {0}
MayCarry (Drop name) = Unit {0}
MayCarry (Copy name h file path n) = HeadMayStand name h × (h.length ≡ n)
MayCarry (Dup name h from) = HeadMayStand name h × (from ≢ name) × (is_inside from ≡ false)

-- the source has what the record copies, with as many bytes as the record states
abbrev pub HasLength : Files → Rec → Type 0
HasLength files (Put name bytes) = Unit {0}
HasLength files (Drop name) = Unit {0}
HasLength files (Copy name h file path n) = length (bytes_or_none (get files path)) ≡ n
HasLength files (Dup name h from) = Unit {0}

-- one of the records copies the source's file of this key, and states that it has so many bytes
pub record States (rs : List Rec) (key : List ℕ) (n : ℕ) : Type 0 where
  pub name : Name
  pub head : FileHead
  pub path : List ℕ
  pub is : Contains rs (Copy name head key path n)
