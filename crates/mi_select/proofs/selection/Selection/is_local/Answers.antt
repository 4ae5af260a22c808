use Rattle.std.proofs.Common.{ap, ◌∙◌}
use Rattle.mi_model.specs.Components.{is_made_local}
use Rattle.mi_select.proofs.LookLemmas.{local-told}
use Rattle.mi_select.proofs.selection.Selection.is_local.Goals as goal

pub returns : goal.returns
returns c = c.is_local.ensures ∙ local-told c.action.result ∙ ap is_made_local c.action.ensures
