-- No byte 0 stands at the front.
use Rattle.std.proofs.Common.{None, lit<}
use Rattle.std.proofs.lemmas.Str.Pattern.{strip_prefix_char}
use Rattle.mi_regval.proofs.MarkLemmas.{no_front}
use Rattle.mi_regval.proofs.marks.split_front.Goals as goal

pub returns-in-None : goal.returns-in-None
returns-in-None c = no_front c.args.text.now (strip_prefix_char 0 c.args.text.now None c.in-None.ensures.cases (lit< tt))
