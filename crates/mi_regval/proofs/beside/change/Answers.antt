-- Without an old list the text's items are the list.
use Rattle.std.proofs.Common.{List, ℕ, ap}
use Rattle.mi_base.specs.declared.entry.RegValue.TheVariants as value
use Rattle.mi_regval.specs.declared.change.Change.{Change}
use Rattle.mi_regval.specs.declared.change.Change.TheVariants as change
use Rattle.mi_regval.proofs.ListLemmas.{joined_alone}
use Rattle.mi_regval.proofs.beside.change.Goals as goal

pub returns-in-None : goal.returns-in-None
returns-in-None c = rw c.in-None.is (ap (λ (items : List (List ℕ)). let r : Change = change.Value (value.List items) in r) (joined_alone c.args.list.side c.args.list.items))
