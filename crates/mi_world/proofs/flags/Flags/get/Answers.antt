use Rattle.std.proofs.Common.{Bool, sym, ap, ◌∙◌}
use Rattle.std.specs.FinMap.{get}
use Rattle.mi_text.specs.Maps.{Map}
use Rattle.mi_world.proofs.TableLemmas.{get-flags_of}
use Rattle.mi_world.proofs.flags.Flags.get.Goals as goal

pub returns : goal.returns
returns c = c.copied.ensures ∙ c.get.ensures.value ∙ sym (get-flags_of c.self.inside.values.entries c.args.name.now) ∙ ap (λ (m : Map Bool). get m c.args.name.now) c.self.view_is
