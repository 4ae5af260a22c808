-- Written out, so that an edit that turns it is refused at once (docs/CONTRIBUTING.md).
use Rattle.std.proofs.Common.{arith}
use Rattle.std.proofs.lemmas.Grind.{common_steps}
use Rattle.mi_words.proofs.digits.number_of.Goals as goal

pub returns-then-number-gt-MOST_FILES : goal.returns-then-number-gt-MOST_FILES
returns-then-number-gt-MOST_FILES c = grind (arith, common_steps)
