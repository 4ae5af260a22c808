use Rattle.std.proofs.Common.{◌%◌, sym, ap, ◌∙◌}
use Rattle.std.specs.Map.Iter.{deref}
use Rattle.std.proofs.lemmas.Map.Iter.{rest_all}
use Rattle.mi_schema.specs.Source.{word_count}
use Rattle.mi_schema.proofs.check.word_count.Goals as goal

pub loop-row-init : goal.loop-row-init
loop-row-init c = ap word_count (c.into_iter-row-iterator.ensures.into_iter_gives ∙ c.values-row-items.ensures.rest)

pub returns : goal.returns
returns c =
    let end = rest_all deref c.loop-row.row-iterator c.next.new.self c.next.result c.in-None.is c.next.ensures.steps in
    ap (λ n. n % 4) (sym (ap word_count end) ∙ c.loop-row.invariant)
