use Rattle.std.proofs.Common.{◌≡◌, ℕ, ◌<◌, length, get_or, List, [], Option, Some, None, sym, ap, subst, ◌∙◌, refl, arith}
use Rattle.std.specs.Prelude.{slice_get, slice_index, IfSome, unwrap_or, option_map}
use Rattle.std.specs.Borrow.{Bor}
use Rattle.std.proofs.Math.ListN.{length-set}
use Rattle.std.proofs.lemmas.Option.{slice_get_read}
use Rattle.mi_dirs.specs.declared.dir.Own.{Own}
use Rattle.mi_dirs.specs.Places.{parent_at, joined}
use Rattle.mi_dirs.specs.Views.{own_view, places_in, IsFolderOwn}
use Rattle.mi_dirs.proofs.FilledLemmas.{parent_below, filled_more, filled_whole}
use Rattle.mi_dirs.proofs.TargetLemmas.{value_of, Chosen, changes, stays, parent_here, next_target, folders-set}
use Rattle.mi_dirs.proofs.targets.targets_of.Goals as goal
use Rattle.mi_dirs.proofs.targets.targets_of.Goals.{then-row-changed, else-row-changed}

pub target_of-requires-clause-rows : goal.target_of-requires-clause-rows
target_of-requires-clause-rows c =
    let rows = c.args.rows.now in
    let order = c.args.order.now in
    let i = c.loop-row.row-index in
    let row = slice_index order i in
    let dir = c.index-rows-row.result in
    let below : row < length rows = c.requires.order.ordered.within i c.loop-row-test.true in
    let is : slice_get rows row ≡ Some dir = slice_get_read rows (length rows) row dir refl below c.index-rows-row.is in
    let size : length rows ≡ length c.deref.result.now = sym c.loop-row.invariant.0 ∙ ap length (sym c.deref.ensures.value) in
    subst (λ (n : ℕ). IfSome dir.parent (λ p. p < n)) size
    (parent_below (parent_at (places_in rows [])) (length rows) order i row c.requires.order.ordered c.loop-row-test.true refl dir.parent (parent_here rows row dir is))

pub target_of-requires-clause-own_folder : goal.target_of-requires-clause-own_folder
target_of-requires-clause-own_folder c =
    let rows = c.args.rows.now in
    let order = c.args.order.now in
    let row = slice_index order c.loop-row.row-index in
    let dir = c.index-rows-row.result in
    let below : row < length rows = c.requires.order.ordered.within c.loop-row.row-index c.loop-row-test.true in
    let is : slice_get rows row ≡ Some dir = slice_get_read rows (length rows) row dir refl below c.index-rows-row.is in
    elim c.if-row-changed.branch [
      | then-row-changed w ↦ subst IsFolderOwn (ap (λ (o : Bor Own). o.now) (sym w.own-is)) c.requires.own_folder
      | else-row-changed w ↦ subst IsFolderOwn (ap (λ (o : Bor Own). o.now) (sym w.own-is)) (c.requires.folders row dir is)
    ]

pub loop-row-preserved : goal.loop-row-preserved
loop-row-preserved c =
    let rows = c.args.rows.now in
    let order = c.args.order.now in
    let i = c.loop-row.row-index in
    let row = slice_index order i in
    let dir = c.index-rows-row.result in
    let below : row < length rows = c.requires.order.ordered.within i c.loop-row-test.true in
    let is : slice_get rows row ≡ Some dir = slice_get_read rows (length rows) row dir refl below c.index-rows-row.is in
    let targets = c.loop-row.targets.items in
    let choice : Chosen row c.args.changed c.args.own.now dir.own c.if-row-changed.own.now =
    elim c.if-row-changed.branch [
      | then-row-changed w ↦ changes w.if-row-changed.true (ap (λ (o : Bor Own). o.now) w.own-is)
      | else-row-changed w ↦ stays w.if-row-changed.false (ap (λ (o : Bor Own). o.now) w.own-is)
    ] in
    let right : c.in_ok-target.target ≡ value_of rows c.args.changed c.args.own.now row =
    next_target rows c.args.changed i row c.args.own.now c.if-row-changed.own.now dir order targets c.in_ok-target.target c.requires.order c.requires.ends c.loop-row.invariant.2 c.loop-row-test.true refl below is choice
    (c.in_ok-target.ensures.value ∙ ap (λ (ts : List (Option (List ℕ))). unwrap_or (own_view c.if-row-changed.own.now) (joined dir.name (option_map (λ p. get_or ts p None) dir.parent))) c.deref.ensures.value) in (
      length-set targets row c.in_ok-target.target ∙ c.loop-row.invariant.0,
      folders-set targets row c.in_ok-target.target c.loop-row.invariant.1 c.in_ok-target.ensures.folder,
      filled_more (value_of rows c.args.changed c.args.own.now) order i row targets _ c.in_ok-target.target c.loop-row.invariant.2 refl (omega (arith, c.loop-row.invariant.0)) refl right,
    )

pub returns-clause-targets : goal.returns-clause-targets
returns-clause-targets c =
    filled_whole (parent_at (places_in c.args.rows.now [])) (length c.args.rows.now) c.args.order.now (value_of c.args.rows.now c.args.changed c.args.own.now) c.loop-row.targets.items c.loop-row.row-index
    c.requires.order c.loop-row.invariant.2 (omega arith)
