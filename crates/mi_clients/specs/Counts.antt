-- What becomes of the counts of shared files, as the program keeps it. (Component Table, Attributes, msidbComponentAttributesSharedDllRefCount.)
use Rattle.std.specs.Prelude.{◌≡◌, true}
use Rattle.std.specs.BTreeSet.{BTreeSet}
use Rattle.mi_text.specs.Maps.{Name}
use Rattle.mi_model.specs.World.{World}
use Rattle.mi_model.specs.CountRows.{is_guarded}
use Rattle.mi_model.specs.ProcessComponents.{takes_counts}
use Rattle.mi_records.specs.Removing.{Guards}

-- where a counted component leaves, the set has exactly the names that are guarded
abbrev pub GuardsCounts : BTreeSet Name → World → Type 0
GuardsCounts set w = takes_counts w ≡ true → Guards set (is_guarded w)
