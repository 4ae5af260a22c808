use Rattle.std.proofs.Common.{Some, None}
use Rattle.mi_select.proofs.LookLemmas.{request-kept}
use Rattle.mi_select.proofs.selection.Selection.request.Goals as goal

pub returns-in-Some : goal.returns-in-Some
returns-in-Some c = request-kept c.self.inside.features.entries c.self.inside.components.entries c.self.inside.mode c.args.self.now c.self.view_is c.args.feature.now (Some c.in-Some.choice.now) c.in-Some.ensures.value

pub returns-in-None : goal.returns-in-None
returns-in-None c = request-kept c.self.inside.features.entries c.self.inside.components.entries c.self.inside.mode c.args.self.now c.self.view_is c.args.feature.now None c.in-None.ensures.value
