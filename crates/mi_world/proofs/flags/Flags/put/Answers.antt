use Rattle.std.proofs.Common.{Bool, ap, ◌∙◌}
use Rattle.std.specs.Prelude.{string_bytes}
use Rattle.std.specs.FinMap.{insert}
use Rattle.mi_text.specs.Maps.{Name, Map}
use Rattle.mi_world.proofs.TableLemmas.{one_flag}
use Rattle.mi_world.proofs.flags.Flags.put.Goals as goal

pub returns : goal.returns
returns c =
    one_flag c.self.inside.values c.insert.new.self (string_bytes c.in_ok-key.key) c.args.value c.in_ok-insert.ensures.updates
    ∙ ap (λ (m : Map Bool). insert m (string_bytes c.in_ok-key.key) c.args.value) c.self.view_is
    ∙ ap (λ (k : Name). insert c.args.self.now k c.args.value) c.in_ok-key.ensures.ok
