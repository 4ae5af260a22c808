-- One item more.
use Rattle.std.proofs.Common.{◌+◌, cond, ap, ◌∙◌}
use Rattle.mi_text.specs.Maps.{Name, same_name}
use Rattle.mi_records.specs.Removing.{count_at}
use Rattle.mi_records.proofs.ItemLemmas.{counted_more}
use Rattle.mi_records.proofs.items.counted.Goals as goal

pub loop-item-preserved : goal.loop-item-preserved
loop-item-preserved c = λ q.
    counted_more c.args.items.now c.loop-item.item-index c.item-item.result q (count_at c.loop-item.counts) c.count_at-count.result (count_at c.set.new.counts q) c.loop-item-test.true c.item-item.is c.loop-item.invariant
    (c.count_at-count.ensures ∙ ap (count_at c.loop-item.counts) c.as_str.ensures)
    (c.in_ok-set.ensures q ∙ ap (λ (n : Name). cond (same_name q n) (c.count_at-count.result + 1) (count_at c.loop-item.counts q)) c.as_str-in-loop-item.ensures)
