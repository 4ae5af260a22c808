-- What the rows of a phase have made of a plan so far. (This project's own.)
use Rattle.std.specs.Prelude.{◌≡◌, List, Ok}
use Rattle.mi_base.specs.Machine.{Machine}
use Rattle.mi_source.specs.Paths.{Files}
use Rattle.mi_script.specs.declared.rec.Rec.{Rec}
use Rattle.mi_model.specs.World.{RowEffect}
use Rattle.mi_model.specs.PhaseRows.{Touches, by_rows}
use Rattle.mi_model.specs.Plans.{all_touches}
use Rattle.mi_steps.specs.Follows.{Follows}

-- From the one machine and script to the other one these rows were carried out, each over what the earlier ones left, and
-- none was refused.
pub record FollowsRows (files : Files) (before after : Machine) (had has : List Rec) (effects : List RowEffect) : Type 0 where
  pub rows : List Touches
  pub touched : by_rows before effects ≡ Ok rows
  pub follows : Follows files before after had has (all_touches rows)
