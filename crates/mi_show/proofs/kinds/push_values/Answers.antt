use Rattle.std.proofs.Common.{◌++◌, ap, ◌∙◌}
use Rattle.std.specs.List.{flat_map}
use Rattle.std.specs.FinMap.{get}
use Rattle.mi_text.specs.Maps.{Name}
use Rattle.mi_print_looks.specs.Machines.{plain_machine}
use Rattle.mi_print_looks.specs.Sets.{names_of}
use Rattle.mi_show.specs.Prints.{exported_at}
use Rattle.mi_show.proofs.kinds.push_values.Goals as goal

pub returns : goal.returns
returns c =
    let m = plain_machine c.args.image.now in
    c.in_ok-push_values_at.ensures
    ∙ ap (λ (f : Name). c.args.out.now.items ++ flat_map (λ q. exported_at (get m q)) (names_of f m)) (c.as_str.ensures.value ∙ c.in_ok-front.ensures)
