use Rattle.std.proofs.Common.{ℕ, Option, ap, ◌∙◌}
use Rattle.std.specs.Prelude.{unwrap_or}
use Rattle.std.specs.Ordering.{nat_cmp}
use Rattle.std.specs.Cmp.Lexicographic.{slice_cmp}
use Rattle.std.specs.BTreeMap.{get_by}
use Rattle.std.proofs.lemmas.Map.Text.{btree_map_updates_str}
use Rattle.mi_text.specs.Maps.{Name, same_name}
use Rattle.mi_records.proofs.ItemLemmas.{updated_at, count_put}
use Rattle.mi_records.proofs.items.set.Goals as goal

pub returns : goal.returns
returns c = λ q.
    let old = c.args.counts.now in
    let n = c.args.item.now in
    ap (λ (o : Option ℕ). unwrap_or o 0) (btree_map_updates_str n old c.insert.new.self _ c.in_ok-insert.ensures.updates q ∙ updated_at (λ (k : Name). get_by (λ x. slice_cmp nat_cmp k x.now) old) q n _)
    ∙ count_put (same_name q n) c.args.count (get_by (λ x. slice_cmp nat_cmp q x.now) old)
