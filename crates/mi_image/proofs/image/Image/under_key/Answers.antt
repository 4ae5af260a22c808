use Rattle.std.proofs.Common.{◌-◌, ◌≤◌, ◌++◌, length, ap, ◌∙◌, arith}
use Rattle.mi_image.proofs.ListLemmas.{found_at_key}
use Rattle.mi_image.proofs.LengthLemmas.{found_same, next_found, all_found, least_is, most_is}
use Rattle.mi_image.proofs.image.Image.under_key.Goals as goal

pub returns-then-key-ge-KEY_LIMIT-clause-found : goal.returns-then-key-ge-KEY_LIMIT-clause-found
returns-then-key-ge-KEY_LIMIT-clause-found c =
    found_same c.args.self.now c.in_ok-found.found.items c.args.root c.args.key.now c.args.front.now 0 (500 - length c.args.key.now) (omega (arith, c.if-key-ge-KEY_LIMIT.true))
    (found_at_key c.args.self.now c.in_ok-found.found.items c.args.root c.args.key.now c.args.front.now c.as_str.result.now (c.as_str.ensures.value ∙ c.in_ok-name.ensures) c.in_ok-found.ensures.found)

pub loop-found-init : goal.loop-found-init
loop-found-init c = record {
  found = found_same c.args.self.now c.in_ok-found.found.items c.args.root c.args.key.now c.args.front.now 0 (length c.args.key.now - length c.args.key.now) (omega arith)
      (found_at_key c.args.self.now c.in_ok-found.found.items c.args.root c.args.key.now c.args.front.now c.as_str.result.now (c.as_str.ensures.value ∙ c.in_ok-name.ensures) c.in_ok-found.ensures.found);
  low = omega arith;
  high = omega (arith, c.if-key-ge-KEY_LIMIT.false);
}

pub loop-found-preserved : goal.loop-found-preserved
loop-found-preserved c =
    let inv = c.loop-found.invariant in
    let most : c.in-Some.size ≤ 500 = most_is c.in_ok-size.field-0 c.in-Some.size c.loop-found.last c.in-Some.is c.in_ok-size.ensures.next in
    record {
      found = next_found c.args.self.now c.loop-found.found.items c.extend_from_slice.new.self.items c.in_ok-items.items.items c.args.root c.args.key.now c.args.front.now c.as_str-in-Some.result.now c.loop-found.last c.in-Some.size c.in_ok-size.field-0 c.in-Some.is inv.low c.in_ok-size.ensures.next
          (c.as_str-in-Some.ensures.value ∙ c.in_ok-name-2.ensures) c.in_ok-size.ensures.none inv.found c.in_ok-items.ensures.found (c.in_ok-extend_from_slice.ensures.items ∙ ap (λ is. c.loop-found.found.items ++ is) c.as_slice.ensures.value);
      low = omega (arith, inv.low, least_is c.in_ok-size.field-0 c.in-Some.size c.loop-found.last c.in-Some.is c.in_ok-size.ensures.next);
      high = most;
    }

pub returns-clause-found : goal.returns-clause-found
returns-clause-found c = all_found c.args.self.now c.loop-found.found.items c.args.root c.args.key.now c.args.front.now c.loop-found.last c.in_ok-size.field-0 c.in_default.is c.loop-found.invariant.low c.loop-found.invariant.high c.in_ok-size.ensures.none c.loop-found.invariant.found
