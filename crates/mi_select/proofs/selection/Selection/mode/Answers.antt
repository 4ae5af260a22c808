use Rattle.std.proofs.Common.{ap}
use Rattle.mi_model.specs.World.{Selection}
use Rattle.mi_select.specs.Selections.{selection_of}
use Rattle.mi_select.proofs.selection.Selection.mode.Goals as goal

pub returns : goal.returns
unfolding selection_of
returns c = ap (λ (s : Selection). s.mode) c.self.view_is
