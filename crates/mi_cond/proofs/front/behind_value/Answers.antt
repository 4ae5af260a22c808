use Rattle.std.proofs.Common.{◌-◌, [], false, get_or}
use Rattle.mi_cond.specs.Moves.{InSymbol, InLiteral, AfterMinus, InDigits, begin}
use Rattle.mi_cond.specs.Fronts.{WantsOperator, BehindValue}
use Rattle.mi_cond.proofs.FrontFinds.{at_such, refused_start, refused_mode, refused_wrong, digit_refused}
use Rattle.mi_cond.proofs.front.behind_value.Goals as goal

pub returns-in-Letter : goal.returns-in-Letter
returns-in-Letter c = at_such WantsOperator (BehindValue c.args.has) c.args.rest.now c.operator_behind.result (λ s b. b.0) c.operator_behind.ensures

pub returns-in-Nothing : goal.returns-in-Nothing
returns-in-Nothing c = refused_start c.args.rest.now (BehindValue c.args.has) c.requires.some (λ s b. refused_wrong s (begin (get_or c.args.rest.now 0 0)) c.in-Nothing.ensures.gives)

pub returns-in-Quote : goal.returns-in-Quote
returns-in-Quote c = refused_start c.args.rest.now (BehindValue c.args.has) c.requires.some (λ s b. refused_mode s (InLiteral []) (begin (get_or c.args.rest.now 0 0)) c.in-Quote.ensures.gives b.0)

pub returns-in-Minus : goal.returns-in-Minus
returns-in-Minus c = refused_start c.args.rest.now (BehindValue c.args.has) c.requires.some (λ s b. refused_mode s (AfterMinus) (begin (get_or c.args.rest.now 0 0)) c.in-Minus.ensures.gives b.0)

pub returns-in-Symbol : goal.returns-in-Symbol
returns-in-Symbol c = refused_start c.args.rest.now (BehindValue c.args.has) c.requires.some (λ s b. refused_mode s (InSymbol c.in-Symbol.field-0 []) (begin (get_or c.args.rest.now 0 0)) c.in-Symbol.ensures.gives b.0)

pub returns-in-Digit : goal.returns-in-Digit
returns-in-Digit c =
    let n = get_or c.args.rest.now 0 0 - 48 in
    refused_start c.args.rest.now (BehindValue c.args.has) c.requires.some (λ s b. refused_mode s (InDigits false n) (begin (get_or c.args.rest.now 0 0)) c.in-Digit.ensures.gives (digit_refused s n b.0))
