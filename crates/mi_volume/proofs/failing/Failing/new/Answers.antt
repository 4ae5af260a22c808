use Rattle.std.proofs.Common.{◌≡◌, ℕ, List, subst}
use Rattle.std.specs.BTreeSet.{contains}
use Rattle.std.specs.List.{list_any}
use Rattle.std.specs.Ordering.{nat_cmp}
use Rattle.std.specs.Prelude.{◌==◌}
use Rattle.mi_volume.proofs.FailLemmas.{has_more, has_all}
use Rattle.mi_volume.proofs.failing.Failing.new.Goals as goal

pub loop-number-preserved : goal.loop-number-preserved
loop-number-preserved c = has_more c.deref-number-items.result.now c.loop-number.number-index c.loop-number.numbers c.insert.new.self c.loop-number-test.true c.loop-number.invariant c.in_ok-insert.ensures.updates

pub invariant_of-result : goal.invariant_of-result
invariant_of-result c = record {
  listed = subst (λ (list : List ℕ). (q : ℕ) → contains nat_cmp c.loop-number.numbers q ≡ list_any (λ n. n == q) list) c.deref-number-items.ensures.value
      (has_all c.deref-number-items.result.now c.loop-number.number-index c.loop-number.numbers c.loop-number-test.false c.loop-number.invariant);
}
