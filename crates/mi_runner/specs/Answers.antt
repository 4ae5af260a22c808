-- What a segment leaves, by its answer. (This project's own.)
use Rattle.std.specs.Prelude.{◌≡◌, false, List, Result, OnOk}
use Rattle.std.specs.FinMap.{get}
use Rattle.mi_text.specs.Maps.{Name, is_among}
use Rattle.mi_volume.specs.Maps.{Map}
use Rattle.mi_volume.specs.State.{State, GoesOn}
use Rattle.mi_script.specs.declared.rec.Rec.{Rec}
use Rattle.mi_script.specs.Scripts.{touched_names}
use Rattle.mi_undo.specs.Stands.{StandsFor, outside}
use Rattle.mi_undo.specs.Area.{Works, CanGoBack}
use Rattle.mi_undo.specs.declared.kept.Kept.{Kept}
use Rattle.mi_runner.specs.declared.fault.RunFault.{RunFault}

-- After the records were carried out over F, or a call failed.
pub record Carries {T : Type 0} (old new : State) (kept : Kept) (F : Map) (rs : List Rec) (result : Result T RunFault) : Type 0 where
  -- each crash since then leaves what stands for F
  pub goes : GoesOn old new (StandsFor F)
  pub works : OnOk result (Works new kept F)
  pub can_go_back : CanGoBack new kept F
  -- outside the area no other names than the touched ones have changed
  pub others : (q : Name) → is_among q (touched_names rs) ≡ false → get (outside new.held) q ≡ get (outside old.held) q
