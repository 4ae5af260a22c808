-- By its path.
use Rattle.std.specs.Prelude.{codes}
use Rattle.mi_base.specs.declared.answers.Fault.TheVariants.{BadPath}
use Rattle.mi_model.specs.InstallFiles.{placed}
use Rattle.mi_records.specs.Order.{as_numbered}
use Rattle.mi_installs.specs.declared.placed.Placed.{Placed}
use Rattle.mi_installs.specs.Placings.{as_placed}
use Rattle.mi_installs.proofs.PlacedLemmas.{placed_some, placed_none, refused_told}
use Rattle.mi_installs.proofs.placed.place.Goals as goal

pub returns-in-Ok-Some-clause-placed : goal.returns-in-Ok-Some-clause-placed
returns-in-Ok-Some-clause-placed g c = λ w asked. placed_some w (as_numbered c.args.row) c.in-Ok-Some.path (rw c.in-Ok-Some.field-0-is at (c.in-Ok-Some.ensures.path w asked))

pub returns-in-Ok-None-clause-placed : goal.returns-in-Ok-None-clause-placed
returns-in-Ok-None-clause-placed g c = λ w asked. refused_told {A = Placed} as_placed (placed w (as_numbered c.args.row)) (BadPath (codes "File") c.args.row.0) c.refused.result (placed_none w (as_numbered c.args.row) (rw c.in-Ok-None.field-0-is at (c.in-Ok-None.ensures.path w asked))) c.refused.ensures
