use Rattle.std.proofs.Common.{◌∙◌, sym}
use Rattle.std.specs.Option.{option_copied}
use Rattle.mi_regval.proofs.ListLemmas.{none_text}
use Rattle.mi_regval.proofs.read.read_value.Goals as goal

pub returns-in-Some : goal.returns-in-Some
returns-in-Some c = c.change_beside.ensures c.args.text.now (sym c.in-Some.is ∙ c.in_ok-found.ensures)

pub returns-in-None : goal.returns-in-None
returns-in-None c = c.read_alone.ensures (option_copied c.args.old) (none_text c.args.text.now (sym c.in-None.is ∙ c.in_ok-found.ensures))
