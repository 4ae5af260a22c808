use Rattle.std.proofs.Common.{sym, ◌∙◌, arith}
use Rattle.mi_words.proofs.PlaceLemmas.{other_pass}
use Rattle.mi_words.proofs.places.first_other.Goals as goal

pub loop-place-preserved : goal.loop-place-preserved
loop-place-preserved c = record {
  within = omega (arith, c.loop-place-test.true);
  same = c.loop-place.invariant.same ∙ other_pass c.args.words.now c.loop-place.place c.index-words-place.result c.as_str.result.now c.loop-place-test.true c.index-words-place.is c.as_str.ensures.value (sym c.if-not-is_property.ensures);
}
