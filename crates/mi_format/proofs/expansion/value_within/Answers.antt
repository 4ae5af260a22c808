-- The value is longer than the limit as soon as the text outside of all groups is.
use Rattle.std.proofs.Common.{sym, refl, ◌∙◌, rules, arith}
use Rattle.std.proofs.lemmas.Grind.{common_steps}
use Rattle.mi_format.specs.Scan.{start}
use Rattle.mi_format.specs.State.{parts}
use Rattle.mi_format.specs.Marks.{state_of}
use Rattle.mi_format.proofs.ValueLemmas.{reading_more, past_is, end_is}
use Rattle.mi_format.proofs.expansion.value_within.Goals as goal

pub loop-token-init : goal.loop-token-init
loop-token-init g c =
    let L = g.E.Env.lookups c.args.env.now in
    (c.utf8.text, (start (parts L), c.new-scan.ensures L c.args.room.most, refl))

pub returns-then-is_past : goal.returns-then-is_past
returns-then-is_past g c =
    let L = g.E.Env.lookups c.args.env.now in
    let most = c.args.room.most in
    past_is L c.args.limit most c.args.text.now c.in-Some.behind.now (state_of c.in_ok-scan.scan) c.requires.limit (sym c.is_past.ensures ∙ c.if-is_past.true)
    (reading_more L most c.args.text.now c.loop-token.rest.now c.in-Some.behind.now c.in-Some.token (state_of c.loop-token.scan) (state_of c.in_ok-scan.scan) c.in-Some.ensures.0
    (λ full e. c.in_ok-scan.ensures full c.requires.room e) c.loop-token.invariant.1)

pub returns : goal.returns
returns g c =
    let L = g.E.Env.lookups c.args.env.now in
    let most = c.args.room.most in
    end_is L c.args.limit most c.args.text.now c.loop-token.rest.now (state_of c.loop-token.scan) c.in_ok-value.value c.within.result c.requires.limit c.in_default.ensures
    (c.in_ok-value.ensures L) c.within.ensures c.loop-token.invariant.1

pub loop-token-preserved : goal.loop-token-preserved
loop-token-preserved g c =
    let L = g.E.Env.lookups c.args.env.now in (
      first_of (search rules, grind (arith, common_steps)),
      reading_more L c.args.room.most c.args.text.now c.loop-token.rest.now c.in-Some.behind.now c.in-Some.token (state_of c.loop-token.scan) (state_of c.in_ok-scan.scan) c.in-Some.ensures.0
          (λ full e. c.in_ok-scan.ensures full c.requires.room e) c.loop-token.invariant.1,
    )
