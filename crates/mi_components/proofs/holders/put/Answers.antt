use Rattle.std.proofs.Common.{Option, ap, ◌∙◌}
use Rattle.std.specs.Prelude.{unwrap_or}
use Rattle.std.specs.Ordering.{nat_cmp}
use Rattle.std.specs.Cmp.Lexicographic.{slice_cmp}
use Rattle.std.specs.BTreeMap.{get_by}
use Rattle.std.proofs.lemmas.Map.Text.{btree_map_updates_str}
use Rattle.mi_text.specs.Maps.{Name, same_name}
use Rattle.mi_components.specs.declared.holders.Holders.{Holders}
use Rattle.mi_components.specs.Holders.{nobody}
use Rattle.mi_components.proofs.HolderLemmas.{put_at}
use Rattle.mi_wishes.proofs.RowLemmas.{updated_at}
use Rattle.mi_components.proofs.holders.put.Goals as goal

pub returns : goal.returns
returns c = λ q.
    let old = c.args.held.now in
    let n = c.args.component.now in
    ap (λ (o : Option Holders). unwrap_or o nobody) (btree_map_updates_str n old c.insert.new.self _ c.in_ok-insert.ensures.updates q ∙ updated_at (λ (k : Name). get_by (λ x. slice_cmp nat_cmp k x.now) old) q n _)
    ∙ put_at (same_name q n) c.args.holders (get_by (λ x. slice_cmp nat_cmp q x.now) old)
