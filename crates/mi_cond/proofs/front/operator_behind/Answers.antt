use Rattle.std.proofs.Common.{◌∙◌, [], ◌∷◌, sym, take, get_or}
use Rattle.mi_cond.specs.Moves.{InWord, begin}
use Rattle.mi_cond.specs.Fronts.{WantsOperator}
use Rattle.mi_cond.proofs.FrontFinds.{at_word, letter_first, refused_start, refused_mode, word_refused, word_stands}
use Rattle.mi_cond.proofs.Lexis.{begin-letter}
use Rattle.mi_cond.proofs.front.operator_behind.Goals as goal

pub operator_at-requires-clause-begins : goal.operator_at-requires-clause-begins
operator_at-requires-clause-begins c = letter_first c.args.rest.now c.requires.some c.requires.letter

pub operator_at-requires-clause-stands : goal.operator_at-requires-clause-stands
operator_at-requires-clause-stands c = sym c.begins_operator.ensures ∙ c.if-begins_operator.true

pub returns-then-begins_operator : goal.returns-then-begins_operator
returns-then-begins_operator c =
    let begins = sym c.begins_operator.ensures ∙ c.if-begins_operator.true in
    at_word c.args.rest.now WantsOperator c.operator_at.result c.requires.some c.requires.letter (λ s w. word_stands s (take 1 c.args.rest.now) w begins) c.operator_at.ensures

pub returns-else-begins_operator : goal.returns-else-begins_operator
returns-else-begins_operator c =
    let rest = c.args.rest.now in
    let none = sym c.begins_operator.ensures ∙ c.if-begins_operator.false in
    refused_start rest WantsOperator c.requires.some (λ s w. refused_mode s (InWord (get_or rest 0 0 ∷ [])) (begin (get_or rest 0 0)) (sym (begin-letter (get_or rest 0 0) c.requires.letter)) (word_refused s rest c.requires.some w none))
