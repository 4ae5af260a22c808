-- What a call makes of a plan. (This project's own.)
use Rattle.std.specs.Prelude.{ℕ, Bool, true, false, List}
use Rattle.std.specs.FinMap.{get}
use Rattle.mi_text.specs.Maps.{Name, Map}
use Rattle.mi_base.specs.declared.entry.FileHead.{FileHead}
use Rattle.mi_base.specs.declared.entry.Entry.{Entry}
use Rattle.mi_base.specs.declared.entry.Entry.TheVariants.{File}
use Rattle.mi_base.specs.Machine.{Machine}
use Rattle.mi_base.specs.Names.{file_name}
use Rattle.mi_base.specs.Records.{with_bytes}
use Rattle.mi_source.specs.Paths.{Files}
use Rattle.mi_changes.specs.Touches.{Touch}
use Rattle.mi_image.specs.Items.{bytes_of_file, bytes_or_none, machine_over}
use Rattle.mi_image.specs.Overlays.{present_items}
use Rattle.mi_steps.specs.declared.plan.Plan.{Plan}
use Rattle.mi_steps.specs.Follows.{Follows, put_touch}

-- the machine that the image of a plan stands for, over the map that was scanned and the source's files
abbrev pub plan_machine : Map (List ℕ) → Files → Plan → Machine
plan_machine held files p = machine_over held files (present_items p.overlay)

-- From one plan to the other these touches were made.
abbrev pub Makes : Map (List ℕ) → Files → Plan → Plan → List (Touch Entry) → Type 0
Makes held files before after touches = Follows files (plan_machine held files before) (plan_machine held files after) before.script after.script touches

-- ---- the touches of single steps that write files

-- a file with this head and the bytes of the source's file of this path
abbrev pub copy_touch : Files → FileHead → List ℕ → Touch Entry
copy_touch files h path = put_touch (file_name h.shown) (File (with_bytes h (bytes_or_none (get files path))))

-- a file with this head and the bytes of the file that stands at another name
abbrev pub duplicate_touch : Machine → FileHead → Name → Touch Entry
duplicate_touch m h from = put_touch (file_name h.shown) (File (with_bytes h (bytes_of_file (get m from))))

-- the entry is a file
abbrev pub is_file : Entry → Bool
is_file (File f) = true
is_file other = false
