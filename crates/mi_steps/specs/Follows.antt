-- What a piece of a plan leaves: the machine and the script follow the touches of rows. (This project's own.)
use Rattle.std.specs.Prelude.{◌≡◌, List, ◌++◌, Some, None}
use Rattle.mi_text.specs.Maps.{Name}
use Rattle.mi_base.specs.declared.entry.Entry.{Entry}
use Rattle.mi_base.specs.Machine.{Machine, volume_of}
use Rattle.mi_source.specs.Paths.{Files}
use Rattle.mi_changes.specs.Touches.{Touch, Set, by_touch}
use Rattle.mi_changes.specs.Changes.{changes}
use Rattle.mi_script.specs.declared.rec.Rec.{Rec}
use Rattle.mi_script.specs.Scripts.{script_changes}
use Rattle.mi_script.specs.Spelled.{spelled_changes}
use Rattle.mi_model.specs.StatedSizes.{StateSizes}

-- From the one machine and script to the other one these touches were made: the machine is touched so, and the script has
-- grown by records that change exactly what the touches change, over this source, and state the sizes that this gives.
pub record Follows (files : Files) (before after : Machine) (had has : List Rec) (touches : List (Touch Entry)) : Type 0 where
  pub machine : after ≡ by_touch before touches
  pub records : List Rec
  pub grows : has ≡ had ++ records
  pub spells : script_changes files (volume_of before) records ≡ spelled_changes (volume_of before) (changes before touches)
  pub sizes : StateSizes files (volume_of before) records

-- a script that only grew
abbrev pub Grows : List Rec → List Rec → Type 0
Grows had has = (more : List Rec) × (has ≡ had ++ more)

-- ---- the touches of single steps

-- this entry stands at the name, whatever stood there
abbrev pub put_touch : Name → Entry → Touch Entry
put_touch name e = Set name (λ old. Some e)

-- nothing stands at the name
abbrev pub drop_touch : Name → Touch Entry
drop_touch name = Set name (λ old. None)
