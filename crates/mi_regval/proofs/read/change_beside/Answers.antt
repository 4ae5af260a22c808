use Rattle.std.specs.Option.{option_copied}
use Rattle.mi_regval.proofs.ChangeLemmas.{list_result}
use Rattle.mi_regval.proofs.read.change_beside.Goals as goal

pub returns : goal.returns
returns c = λ text some.
    list_result text (option_copied c.args.old) c.args.list (option_copied c.old_items.result) c.in_ok-changed.changed some c.old_items.ensures c.in_ok-changed.ensures
