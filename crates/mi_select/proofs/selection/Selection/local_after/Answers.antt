use Rattle.std.proofs.Common.{ap, ◌∙◌}
use Rattle.mi_model.specs.World.{Selection}
use Rattle.mi_select.specs.Selections.{selection_of}
use Rattle.mi_select.proofs.selection.Selection.local_after.Goals as goal

pub returns : goal.returns
unfolding selection_of
returns c = c.in_ok-names.ensures ∙ ap (λ (s : Selection). s.local_after) c.self.view_is
