use Rattle.std.proofs.Common.{Some, None, ◌∙◌}
use Rattle.mi_select.proofs.LookLemmas.{path-kept}
use Rattle.mi_select.proofs.selection.Selection.key_path.Goals as goal

pub returns-in-Some : goal.returns-in-Some
returns-in-Some c = c.as_str.ensures ∙ path-kept c.self.inside.features.entries c.self.inside.components.entries c.self.inside.mode c.args.self.now c.self.view_is c.args.component.now (Some c.in-Some.chosen.now) c.in-Some.ensures.value

pub returns-in-None : goal.returns-in-None
returns-in-None c = path-kept c.self.inside.features.entries c.self.inside.components.entries c.self.inside.mode c.args.self.now c.self.view_is c.args.component.now None c.in-None.ensures.value
