use Rattle.mi_commands.proofs.WordLemmas.{public_with_none}
use Rattle.mi_words.specs.Asked.{of_words}
use Rattle.mi_commands.proofs.obey.install_made.Goals as goal

pub install-requires-clause-public : goal.install-requires-clause-public
install-requires-clause-public g c = public_with_none (of_words c.args.asked.now.words) c.requires.words

pub returns-clause-serves : goal.returns-clause-serves
returns-clause-serves g c = c.install.ensures.serves
