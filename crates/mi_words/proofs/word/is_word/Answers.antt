-- Written out, so that an edit that turns it is refused at once (docs/CONTRIBUTING.md).
use Rattle.std.proofs.Common.{rules}
use Rattle.mi_words.proofs.word.is_word.Goals as goal

pub returns : goal.returns
returns c = search rules
