-- Where the walk stands, as the program keeps it. (Suggested InstallExecuteSequence.)
use Rattle.std.specs.Prelude.{◌≡◌, List, codes}
use Rattle.mi_text.specs.Maps.{Name, is_among}
use Rattle.mi_model.specs.Sequence.{is_costed, is_finalized}
use Rattle.mi_seq_rows.specs.declared.stage.Stage.{Stage}

-- these actions are begun
pub record Reaches (s : Stage) (begun : List Name) : Type 0 where
  pub costed : s.costed ≡ is_costed begun
  pub initialized : s.initialized ≡ is_among (codes "InstallInitialize") begun
  pub finalized : s.finalized ≡ is_finalized begun
