use Rattle.std.proofs.Common.{◌≡◌, ℕ, ◌<◌, length, get_or, List, [], Option, Some, None, ap, ◌∙◌, refl, arith}
use Rattle.std.specs.Prelude.{slice_get, slice_index, option_map}
use Rattle.std.proofs.Math.ListN.{length-set}
use Rattle.std.proofs.lemmas.Option.{slice_get_read}
use Rattle.mi_dirs.specs.Places.{parent_at}
use Rattle.mi_dirs.specs.Sources.{source_names, above_from, above_in}
use Rattle.mi_dirs.specs.Views.{places_in}
use Rattle.mi_dirs.proofs.FilledLemmas.{parent_below, filled_more, filled_whole}
use Rattle.mi_dirs.proofs.TargetLemmas.{parent_here}
use Rattle.mi_dirs.proofs.AboveLemmas.{next_above}
use Rattle.mi_dirs.proofs.sources.rows_above.Goals as goal

pub above_of-requires-clause-rows : goal.above_of-requires-clause-rows
above_of-requires-clause-rows c =
    let rows = c.args.rows.now in
    let order = c.args.order.now in
    let i = c.loop-row.row-index in
    let row = slice_index order i in
    let dir = c.index-rows-row.result in
    let below : row < length rows = c.requires.order.ordered.within i c.loop-row-test.true in
    let is : slice_get rows row ≡ Some dir = slice_get_read rows (length rows) row dir refl below c.index-rows-row.is in
    parent_below (parent_at (places_in rows [])) (length rows) order i row c.requires.order.ordered c.loop-row-test.true refl _ (parent_here rows row _ (is ∙ ap (λ d. Some d) c.index-rows-row.is))

pub loop-row-preserved : goal.loop-row-preserved
loop-row-preserved c =
    let rows = c.args.rows.now in
    let order = c.args.order.now in
    let i = c.loop-row.row-index in
    let row = slice_index order i in
    let dir = c.index-rows-row.result in
    let below : row < length rows = c.requires.order.ordered.within i c.loop-row-test.true in
    let is : slice_get rows row ≡ Some dir = slice_get_read rows (length rows) row dir refl below c.index-rows-row.is in
    let table = c.loop-row.above.items in
    let right : c.above_of.result ≡ above_in rows row =
    next_above rows order i row _ c.above_of.result table c.requires.order (c.requires.ends row below) c.loop-row.invariant.1 c.loop-row-test.true refl (parent_here rows row _ (is ∙ ap (λ d. Some d) c.index-rows-row.is))
    (c.above_of.ensures ∙ ap (λ (ts : List (Option ℕ)). above_from (source_names rows) (get_or rows row dir).parent (option_map (λ p. get_or ts p None) (get_or rows row dir).parent)) c.deref.ensures.value) in (
      length-set table row c.above_of.result ∙ c.loop-row.invariant.0,
      filled_more (above_in rows) order i row table _ c.above_of.result c.loop-row.invariant.1 refl (omega (arith, c.loop-row.invariant.0)) refl right,
    )

pub returns : goal.returns
returns c =
    filled_whole (parent_at (places_in c.args.rows.now [])) (length c.args.rows.now) c.args.order.now (above_in c.args.rows.now) c.loop-row.above.items c.loop-row.row-index
    c.requires.order c.loop-row.invariant.1 (omega arith)
