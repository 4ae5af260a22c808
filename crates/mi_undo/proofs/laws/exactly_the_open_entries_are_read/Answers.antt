use Rattle.mi_undo.proofs.LawLemmas.{noted_opened}
use Rattle.mi_undo.proofs.SpelledLemmas.{open_read}
use Rattle.mi_undo.proofs.laws.exactly_the_open_entries_are_read.Goals as goal

pub returns-clause-only : goal.returns-clause-only
returns-clause-only c = λ d ns all marked is. open_read d ns all marked is

pub returns-clause-all : goal.returns-clause-all
returns-clause-all c = λ d parts o. noted_opened d parts o.are_open.marked o.are_open.opened o.are_open.are_new o.are_open.few o.shut
