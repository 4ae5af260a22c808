use Rattle.std.proofs.Common.{List, Bor, ap, ◌∙◌}
use Rattle.mi_text.specs.Maps.{Name}
use Rattle.mi_world.specs.Systems.{listed_in}
use Rattle.mi_world.proofs.SystemLemmas.{listed_so}
use Rattle.mi_world.proofs.system.system_pairs.Goals as goal

pub returns : goal.returns
returns c = λ held files.
    listed_so held files c.args.image.now c.stands_right.ensures c.in_ok-names.names.items c.in_ok-pairs.pairs.items (c.in_ok-names.ensures held files)
    (c.in_ok-pairs.ensures ∙ ap (λ (ns : List (Bor Name)). listed_in c.args.image.now ns) c.deref.ensures.value)
