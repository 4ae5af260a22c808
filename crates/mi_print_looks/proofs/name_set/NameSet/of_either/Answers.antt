-- Written out, so that an edit that turns it is refused at once (docs/CONTRIBUTING.md).
use Rattle.std.proofs.Common.{[]}
use Rattle.mi_print_looks.specs.Machines.{plain_machine}
use Rattle.mi_print_looks.specs.Sets.{names_of}
use Rattle.mi_print_looks.proofs.name_set.NameSet.of_either.Goals as goal

pub returns : goal.returns
returns c = c.in_ok-add_names-2.ensures (names_of c.args.front.now (plain_machine c.args.before.now)) (c.in_ok-add_names.ensures [] c.new-set.ensures)
