use Rattle.std.proofs.Common.{◌-◌, [], false, sym, subst, take, get_or}
use Rattle.mi_cond.specs.declared.front.Front.{Front}
use Rattle.mi_cond.specs.Moves.{InSymbol, InLiteral, AfterMinus, InDigits, AfterTilde, InComparison, begin}
use Rattle.mi_cond.specs.Fronts.{Follows, WantsValue}
use Rattle.mi_cond.proofs.FrontLaws.{wants_word, digits_are}
use Rattle.mi_cond.proofs.FrontFinds.{at_start, at_word, letter_first, refused_start, refused_mode, refused_wrong, wants_not_has, digit_stands}
use Rattle.mi_cond.proofs.front.value_at.Goals as goal

pub returns-in-Quote : goal.returns-in-Quote
returns-in-Quote c = at_start c.args.rest.now (InLiteral []) WantsValue c.literal_at.result c.requires.some (sym c.in-Quote.ensures.gives) (λ s w. w) c.literal_at.ensures

pub returns-in-Minus : goal.returns-in-Minus
returns-in-Minus c = at_start c.args.rest.now AfterMinus WantsValue c.negative_at.result c.requires.some (sym c.in-Minus.ensures.gives) (λ s w. w) c.negative_at.ensures

pub returns-in-Digit : goal.returns-in-Digit
returns-in-Digit c =
    let rest = c.args.rest.now in
    let is = c.in-Digit.ensures.named in
    let follows = subst (λ (f : Front). Follows 1 (InDigits false (get_or rest 0 0 - 48)) WantsValue rest f) (sym c.digits_at.ensures) (digits_are rest c.requires.some is) in
    at_start rest (InDigits false (get_or rest 0 0 - 48)) WantsValue c.digits_at.result c.requires.some (sym c.in-Digit.ensures.gives) (λ s w. digit_stands s false (get_or rest 0 0) w is) follows

pub word_at-requires : goal.word_at-requires
word_at-requires c = letter_first c.args.rest.now c.requires.some c.in-Letter.ensures.named

pub returns-in-Letter : goal.returns-in-Letter
returns-in-Letter c = at_word c.args.rest.now WantsValue c.word_at.result c.requires.some c.in-Letter.ensures.named (λ s w. wants_word s (take 1 c.args.rest.now) w) c.word_at.ensures

pub returns-in-Symbol : goal.returns-in-Symbol
returns-in-Symbol c = at_start c.args.rest.now (InSymbol c.in-Symbol.mark []) WantsValue c.symbol_at.result c.requires.some (sym c.in-Symbol.ensures.gives) (λ s w. w) c.symbol_at.ensures

pub returns-in-Tilde : goal.returns-in-Tilde
returns-in-Tilde c = refused_start c.args.rest.now WantsValue c.requires.some (λ s w. refused_mode s AfterTilde (begin (get_or c.args.rest.now 0 0)) c.in-Tilde.ensures.gives (wants_not_has s w))

pub returns-in-Comparison : goal.returns-in-Comparison
returns-in-Comparison c = refused_start c.args.rest.now WantsValue c.requires.some (λ s w. refused_mode s (InComparison (record { relation = c.in-Comparison.field-0; folds = false })) (begin (get_or c.args.rest.now 0 0)) c.in-Comparison.ensures.gives (wants_not_has s w))

pub returns-in-Nothing : goal.returns-in-Nothing
returns-in-Nothing c = refused_start c.args.rest.now WantsValue c.requires.some (λ s w. refused_wrong s (begin (get_or c.args.rest.now 0 0)) c.in-Nothing.ensures.gives)
