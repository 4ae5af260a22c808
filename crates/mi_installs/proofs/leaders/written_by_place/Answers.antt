use Rattle.std.proofs.Common.{◌≡◌, ◌<◌, ◌∙◌, ℕ, Bool, false, List, Option, None, length, get_or, option_map, ap, arith, refl}
use Rattle.std.proofs.Math.ListN.{length-set}
use Rattle.std.proofs.lemmas.Option.{slice_get-get_or}
use Rattle.mi_dirs.specs.Order.{parent_in}
use Rattle.mi_installs.specs.Leads.{led_step, written_at}
use Rattle.mi_dirs.proofs.FilledLemmas.{filled_more, filled_whole}
use Rattle.mi_installs.proofs.LeaderLemmas.{next_written}
use Rattle.mi_installs.proofs.leaders.written_by_place.Goals as goal

pub loop-row-preserved : goal.loop-row-preserved
loop-row-preserved c =
    let leaders : List (Option ℕ) = c.args.leaders.now in
    let asked : List (Option Bool) = c.args.asked.now in
    let order : List ℕ = c.args.order.now in
    let written : List Bool = c.loop-row.written.items in
    let i : ℕ = c.loop-row.row-index in
    let row : ℕ = get_or order i 0 in
    let below : row < length leaders = c.requires.order.ordered.within i c.loop-row-test.true in
    let short : row < length asked = omega (arith, below, c.requires.size) in
    let made : c.is_written-one.result ≡ led_step (get_or asked row None) (option_map (λ p. get_or written p false) (get_or leaders row None)) =
    c.is_written-one.ensures ∙ ap (λ (ws : List Bool). led_step (get_or asked row None) (option_map (λ p. get_or ws p false) (get_or leaders row None))) c.deref.ensures.value in
    let right : c.is_written-one.result ≡ written_at leaders asked row =
    next_written leaders asked order written i row (get_or leaders row None) (get_or asked row None) c.is_written-one.result c.requires.order c.requires.ends c.loop-row.invariant.1 c.loop-row-test.true refl below
    (slice_get-get_or leaders row None below) (slice_get-get_or asked row None short) made in (
      length-set written row c.is_written-one.result ∙ c.loop-row.invariant.0,
      filled_more (written_at leaders asked) order i row written _ c.is_written-one.result c.loop-row.invariant.1 refl (omega (arith, below, c.loop-row.invariant.0)) refl right,
    )

pub returns-clause-written : goal.returns-clause-written
returns-clause-written c =
    filled_whole (parent_in c.args.leaders.now) (length c.args.leaders.now) c.args.order.now (written_at c.args.leaders.now c.args.asked.now) c.loop-row.written.items c.loop-row.row-index c.requires.order c.loop-row.invariant.1 c.loop-row-test.false
