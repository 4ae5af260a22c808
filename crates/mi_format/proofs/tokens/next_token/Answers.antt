use Rattle.std.proofs.Common.{◌≡◌, eqb, false, true, arith, eq-eqb}
use Rattle.mi_format.proofs.TokenLemmas.{no_mark, no_tokens, first_token, first_mark, first_escape}
use Rattle.mi_format.proofs.tokens.next_token.Goals as goal

pub returns-in_default : goal.returns-in_default
returns-in_default c = no_tokens c.args.text.now c.in_default.ensures

pub returns-then-first-ne91 : goal.returns-then-first-ne91
returns-then-first-ne91 c =
    let other : eqb c.in-Some.first 91 ≡ false = no_mark c.in-Some.first c.if-first-ne91.true in
    (rw c.token_of.ensures (first_token c.args.text.now c.in-Some.behind.now c.in-Some.first c.in-Some.ensures.0 other), c.in-Some.ensures.1)

pub returns-in-Some-escape : goal.returns-in-Some-escape
returns-in-Some-escape c =
    let mark : eqb c.in-Some.first 91 ≡ true = eq-eqb c.in-Some.first 91 c.if-first-ne91.false in
    (first_escape c.args.text.now c.in-Some.behind.now c.in-Some-escape.after.now c.in-Some.first c.in-Some-escape.given c.in-Some.ensures.0 mark c.in-Some-escape.ensures.value, omega (arith, c.in-Some-escape.ensures.shorter, c.in-Some.ensures.1))

pub returns-in-None : goal.returns-in-None
returns-in-None c =
    let mark : eqb c.in-Some.first 91 ≡ true = eq-eqb c.in-Some.first 91 c.if-first-ne91.false in
    (first_mark c.args.text.now c.in-Some.behind.now c.in-Some.first c.in-Some.ensures.0 mark c.in-None.ensures.value, c.in-Some.ensures.1)
