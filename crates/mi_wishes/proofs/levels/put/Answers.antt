use Rattle.std.proofs.Common.{Some, cond, w32, ap, ◌∙◌}
use Rattle.std.proofs.lemmas.Int.{to_z-of_z}
use Rattle.std.proofs.lemmas.Map.Text.{btree_map_updates_str}
use Rattle.mi_text.specs.Maps.{same_name}
use Rattle.mi_wishes.specs.Levels.{level_at}
use Rattle.mi_wishes.proofs.RowLemmas.{updated_at}
use Rattle.mi_wishes.proofs.levels.put.Goals as goal

pub returns : goal.returns
returns c = λ q.
    let old = c.args.levels.now in
    let n = c.args.feature.now in
    btree_map_updates_str n old c.insert.new.self _ c.in_ok-insert.ensures.updates q
    ∙ updated_at (level_at old) q n _
    ∙ ap (λ z. cond (same_name q n) (Some z) (level_at old q)) (to_z-of_z w32 c.args.level c.ranges.level)
