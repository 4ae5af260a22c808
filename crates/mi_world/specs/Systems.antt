-- Properties of the system, as the program reads them. (Property Reference.)
use Rattle.std.specs.Prelude.{ℕ, ◌==◌, List, map, length, Option, Some, None, if◌then◌else◌}
use Rattle.std.specs.List.{filter_map}
use Rattle.std.specs.Borrow.{Bor}
use Rattle.std.specs.FinMap.{get}
use Rattle.std.specs.Result.{result_ok}
use Rattle.mi_text.specs.Maps.{Name}
use Rattle.mi_text.specs.Path.{folder_of}
use Rattle.mi_base.specs.declared.entry.Entry.{Entry}
use Rattle.mi_base.specs.declared.entry.Entry.TheVariants as entry
use Rattle.mi_base.specs.System.{default_system}
use Rattle.mi_dirs.specs.Places.{Folder}
use Rattle.mi_image.specs.Items.{Items}
use Rattle.mi_image.specs.Lookups.{whole_of}

abbrev pub both_now : Bor (List ℕ) × Bor (List ℕ) → List ℕ × List ℕ
both_now p = (p.0.now, p.1.now)

abbrev pub lent_pair : Bor (List ℕ) × Bor (List ℕ) → List ℕ × List ℕ
lent_pair p = (p.0.now, p.1.now)

-- the property, if the entry is one of the system
abbrev pub system_of : Option Entry → Option (Name × List ℕ)
system_of (Some (entry.System property text)) = Some (property, text)
system_of other = None

-- the one that stands at a name of an image
abbrev pub system_at : Items → Name → Option (Name × List ℕ)
system_at items q = system_of (whole_of (get items q))

-- those that stand at these names; where there are no names, the default ones
abbrev pub listed_in : Items → List (Bor Name) → List (Name × List ℕ)
listed_in items names = if length names == 0 then default_system else filter_map (system_at items) (map (λ (n : Bor Name). n.now) names)

-- the folder that a text names
abbrev pub folder_named : List ℕ → Option Folder
folder_named text = result_ok (folder_of text)

-- that which the value of a property names
abbrev pub pair_folder : Name × List ℕ → Option Folder
pair_folder p = folder_named p.1
