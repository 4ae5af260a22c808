use Rattle.mi_words.proofs.FoldLemmas.{behind_upper}
use Rattle.mi_words.proofs.word.behind_repair.Goals as goal

pub returns-in-None : goal.returns-in-None
returns-in-None c = behind_upper c.args.word.now c.strip_prefix-in-None.result c.in-None.ensures.cases c.strip_prefix-in-None.ensures.cases
