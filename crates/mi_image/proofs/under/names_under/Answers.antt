use Rattle.std.proofs.Common.{◌∙◌, sym, ap}
use Rattle.std.specs.Prelude.{nat_eq, string_bytes}
use Rattle.std.specs.List.{starts_with}
use Rattle.mi_image.proofs.ItemLemmas.{Key}
use Rattle.mi_image.proofs.UnderLemmas.{found_first, found_more}
use Rattle.mi_image.proofs.under.names_under.Goals as goal

pub loop-name-init : goal.loop-name-init
loop-name-init c = record {
  found = found_first (λ (k : Key). string_bytes k) c.args.front.now (λ e. string_bytes e.0) c.new-found.result.items c.into_iter-name-iterator.result c.args.items.now.entries (string_bytes c.in_ok-from.from) c.new-found.ensures.items (c.into_iter-name-iterator.ensures.into_iter_gives ∙ c.range-name-items.ensures.between tt) c.in_ok-from.ensures.ok c.range-name-items.ensures.ordered;
}

pub loop-name-preserved : goal.loop-name-preserved
loop-name-preserved c = record {
  found = found_more (λ (k : Key). string_bytes k) c.args.front.now (λ e. string_bytes e.0) c.loop-name.found.items c.push.new.self.items c.loop-name.name-iterator c.next.new.self _ c.in-Some.name.now _ c.as_str-name.result c.in-Some.ensures.steps c.as_str-name.ensures.value (ap (λ n. starts_with nat_eq n c.args.front.now) (sym (c.as_bytes.ensures.value ∙ c.as_str-name.ensures.value)) ∙ ap (starts_with nat_eq c.as_bytes.result.now) (sym c.as_bytes-bytes.ensures.value) ∙ sym c.starts_with.ensures.value ∙ c.if-not-starts_with.false) c.in_ok-push.ensures.items c.loop-name.invariant.found;
}
