use Rattle.std.proofs.Common.{◌≡◌, ◌++◌, drop}
use Rattle.mi_model.specs.Assignments.{texts_of}
use Rattle.mi_words.specs.Places.{given}
use Rattle.mi_words.proofs.pairs.push_words.Given as goal

abbrev pub invariant-loop-word : goal.invariant-loop-word
invariant-loop-word l = l.pairs.items ++ given (texts_of (drop l.word-index l.words)) ≡ l.fn.pairs.items ++ given (texts_of l.words)
