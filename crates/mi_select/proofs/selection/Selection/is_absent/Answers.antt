use Rattle.std.proofs.Common.{ap, ◌∙◌}
use Rattle.mi_model.specs.Components.{is_made_absent}
use Rattle.mi_select.proofs.LookLemmas.{absent-told}
use Rattle.mi_select.proofs.selection.Selection.is_absent.Goals as goal

pub returns : goal.returns
returns c = c.is_absent.ensures ∙ absent-told c.action.result ∙ ap is_made_absent c.action.ensures
