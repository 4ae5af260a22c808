use Rattle.std.proofs.Common.{take, ap, ◌∙◌}
use Rattle.mi_print.proofs.TreeCodeLemmas.{end_step, end_low}
use Rattle.mi_print.proofs.trees.folder_len.Goals as goal

pub loop-i-preserved : goal.loop-i-preserved
loop-i-preserved c = record {
  folder = ap (λ n. take n c.args.bytes.now) c.end_behind-end.ensures ∙ end_step c.args.bytes.now c.loop-i.i c.loop-i.end c.loop-i-test.true c.loop-i.invariant.folder;
  within = end_low _ c.loop-i.i c.loop-i.end c.end_behind-end.result c.end_behind-end.ensures c.loop-i.invariant.within;
}
