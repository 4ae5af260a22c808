use Rattle.std.proofs.Common.{◌∙◌, sym, ap, get_or}
use Rattle.mi_cond.specs.declared.token.Token.TheVariants.{Open, Close}
use Rattle.mi_cond.specs.Moves.{begin}
use Rattle.mi_cond.specs.Fronts.{WantsValue, BehindValue, Stands}
use Rattle.mi_cond.proofs.FrontLaws.{blank_is, bracket_is}
use Rattle.mi_cond.proofs.FrontFinds.{at_such, plain_is}
use Rattle.mi_cond.proofs.front.front_of.Goals as goal

pub returns-then-is_blank : goal.returns-then-is_blank
returns-then-is_blank c = blank_is (Stands c.args.wants c.args.has) c.args.rest.now c.requires (sym c.is_blank.ensures ∙ c.if-is_blank.true)

pub returns-then-byte-eq40 : goal.returns-then-byte-eq40
returns-then-byte-eq40 c = bracket_is (Stands c.args.wants c.args.has) c.args.rest.now Open c.requires (ap begin c.if-byte-eq40.true)

pub returns-then-byte-eq41 : goal.returns-then-byte-eq41
returns-then-byte-eq41 c = bracket_is (Stands c.args.wants c.args.has) c.args.rest.now Close c.requires (ap begin c.if-byte-eq41.true)

pub value_at-requires-clause-plain : goal.value_at-requires-clause-plain
value_at-requires-clause-plain c = plain_is (get_or c.args.rest.now 0 0) (sym c.is_blank.ensures ∙ c.if-is_blank.false) c.if-byte-eq40.false c.if-byte-eq41.false

pub behind_value-requires-clause-plain : goal.behind_value-requires-clause-plain
behind_value-requires-clause-plain c = plain_is (get_or c.args.rest.now 0 0) (sym c.is_blank.ensures ∙ c.if-is_blank.false) c.if-byte-eq40.false c.if-byte-eq41.false

pub returns-then-wants : goal.returns-then-wants
returns-then-wants c = at_such WantsValue (Stands c.args.wants c.args.has) c.args.rest.now c.value_at.result (λ s b. b.0 ∙ c.if-wants.true) c.value_at.ensures

pub returns-else-wants : goal.returns-else-wants
returns-else-wants c = at_such (BehindValue c.args.has) (Stands c.args.wants c.args.has) c.args.rest.now c.behind_value.result (λ s b. (b.0 ∙ c.if-wants.false, b.1)) c.behind_value.ensures
