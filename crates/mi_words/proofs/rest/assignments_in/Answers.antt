use Rattle.mi_words.proofs.PlaceLemmas.{all_assign, whole_rest}
use Rattle.mi_words.proofs.rest.assignments_in.Goals as goal

pub returns-in-None : goal.returns-in-None
returns-in-None c = all_assign c.args.words.now _ c.args.from (whole_rest c.args.words.now c.args.from) c.in-None.ensures
