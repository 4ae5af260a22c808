-- The parts that `split` gives, but for the empty ones.
use Rattle.std.proofs.Common.{lit<, length, not, tests, rules}
use Rattle.std.specs.Prelude.{◌==◌, List, ℕ}
use Rattle.std.proofs.lemmas.Iterator.Consumers.{YieldsList-from_filter, YieldsList-at, map_from_collect}
use Rattle.std.proofs.lemmas.Iterator.Splits.{YieldsList-from_str_split}
use Rattle.mi_records.proofs.parts.parts_of.Goals as goal

pub returns : goal.returns
returns c =
    let all = map_from_collect c.collect.result c.collect.ensures.ran (YieldsList-from_filter _ (λ (part : List ℕ). not (length part == 0)) (YieldsList-at c.filter.ensures.source (YieldsList-from_str_split 92 c.args.text.now (lit< tt) c.split.ensures.text c.split.ensures.has_more c.split.ensures.pattern)) c.filter.ensures.closure (λ x r q k. search (rules, tests))) in
    rw c.in_ok-parts.was at all
