-- Records that may be carried out over a rollback area. (This project's own.)
use Rattle.std.specs.Prelude.{◌≡◌, false, List}
use Rattle.std.specs.List.{All}
use Rattle.mi_script.specs.declared.rec.Rec.{Rec}
use Rattle.mi_script.specs.Scripts.{name_at}
use Rattle.mi_undo.specs.Names.{is_inside}
use Rattle.mi_runner.specs.Records.{MayCarry}

-- It changes a name outside the area, and a file that it writes may stand there.
pub record IsCarried (r : Rec) : Type 0 where
  pub outside : is_inside (name_at r) ≡ false
  pub may : MayCarry r

abbrev pub AreCarried : List Rec → Type 0
AreCarried recs = All IsCarried recs
