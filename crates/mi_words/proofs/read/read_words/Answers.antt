use Rattle.mi_words.proofs.PlaceLemmas.{read_none, read_some}
use Rattle.mi_words.proofs.read.read_words.Goals as goal

pub returns-in-Some : goal.returns-in-Some
returns-in-Some c = rw (read_some c.args.words.now _ _ _ c.in-Some.ensures.1) c.command_at.ensures

pub returns-in-None : goal.returns-in-None
returns-in-None c = read_none c.args.words.now c.in-None.ensures
