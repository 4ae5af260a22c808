use Rattle.std.proofs.Common.{sym, ap, ◌∙◌}
use Rattle.mi_text.specs.Fold.{folded}
use Rattle.mi_words.proofs.FoldLemmas.{repairs, no_repair, drop_folded}
use Rattle.mi_words.proofs.word.repair_letters.Goals as goal

pub returns-then-are_mode_letters : goal.returns-then-are_mode_letters
returns-then-are_mode_letters c = (repairs c.args.word.now c.in_ok-letters.letters.now c.in_ok-letters.ensures.0 c.in_ok-letters.ensures.1 (sym c.if-are_mode_letters.ensures), ap folded c.in_ok-letters.ensures.1 ∙ drop_folded 2 c.args.word.now)

pub returns-else-are_mode_letters : goal.returns-else-are_mode_letters
returns-else-are_mode_letters c = no_repair c.args.word.now c.in_ok-letters.letters.now c.in_ok-letters.ensures.1 (sym c.if-are_mode_letters.ensures)
