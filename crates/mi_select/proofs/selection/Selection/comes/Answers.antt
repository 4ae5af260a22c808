use Rattle.std.proofs.Common.{Some, None}
use Rattle.mi_select.proofs.LookLemmas.{coming-kept}
use Rattle.mi_select.proofs.selection.Selection.comes.Goals as goal

pub returns-in-Some : goal.returns-in-Some
returns-in-Some c = coming-kept c.self.inside.features.entries c.self.inside.components.entries c.self.inside.mode c.args.self.now c.self.view_is c.args.component.now c.self.invariant (Some c.in-Some.chosen.now) c.in-Some.ensures.value

pub returns-in-None : goal.returns-in-None
returns-in-None c = coming-kept c.self.inside.features.entries c.self.inside.components.entries c.self.inside.mode c.args.self.now c.self.view_is c.args.component.now c.self.invariant None c.in-None.ensures.value
