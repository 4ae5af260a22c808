use Rattle.std.proofs.Common.{◌+◌, ◌-◌, ◌^◌, min, length, List, ℕ, sym, ap, subst, ◌∙◌}
use Rattle.mi_text.specs.Maps.{Name}
use Rattle.mi_volume.proofs.SizeLemmas.{Summing, sum_starts, sum_goes_on, sum_ends}
use Rattle.mi_volume.proofs.OrderLemmas.{size-map_of}
use Rattle.mi_volume.proofs.held.size_of_all.Goals as goal

pub loop-name-init : goal.loop-name-init
loop-name-init c = subst (λ (es : List (Name × List ℕ)). Summing c.args.held.now.entries es 0) (sym c.into_iter-name-iterator.ensures.into_iter_gives.0) (sum_starts c.args.held.now.entries)

pub loop-name-preserved : goal.loop-name-preserved
loop-name-preserved c =
    let here = subst (λ (es : List (Name × List ℕ)). Summing c.args.held.now.entries es c.loop-name.size) c.in-Some.ensures.steps c.loop-name.invariant in
    sum_goes_on c.args.held.now.entries c.next.new.self c.in-Some.name.now c.in-Some.bytes.now c.loop-name.size c.slot_size.result c.saturating_add-size.result here
    (c.slot_size.ensures ∙ ap (λ n. min (length c.in-Some.name.now + n) (2 ^ 64 - 1)) c.len.ensures) c.saturating_add-size.ensures

pub returns : goal.returns
returns c =
    sum_ends c.args.held.now.entries c.loop-name.name-iterator c.loop-name.size c.loop-name.invariant c.in-None.ensures.steps.0
    ∙ ap (λ n. min n (2 ^ 64 - 1)) (sym (size-map_of c.args.held.now.entries c.into_iter-name-iterator.ensures.into_iter_gives.5))
