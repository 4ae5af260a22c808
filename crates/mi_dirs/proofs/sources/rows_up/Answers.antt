use Rattle.std.proofs.Common.{◌≡◌, ℕ, ◌<◌, ◌-◌, length, List, [], Some, true, sym, ap, subst, ◌∙◌, arith, vec_len}
use Rattle.mi_dirs.specs.Chains.{ends_in}
use Rattle.mi_dirs.specs.Paths.{AllBelow}
use Rattle.mi_dirs.specs.Places.{bound, parent_at}
use Rattle.mi_dirs.specs.Sources.{source_names, named_step, kept_source, down_to, above_in}
use Rattle.mi_dirs.specs.Views.{places_in}
use Rattle.mi_dirs.proofs.PathLemmas.{below-push}
use Rattle.mi_dirs.proofs.AboveLemmas.{read_above, climbs, climbs_up, climbed, table_reaches}
use Rattle.mi_dirs.proofs.sources.rows_up.Goals as goal

pub offset_bounds-above-at : goal.offset_bounds-above-at
offset_bounds-above-at c = let long = table_reaches c.args.rows.now c.args.above.now c.loop-at.at c.loop-at.invariant.0 c.requires.above in omega (arith, long)

pub bounds-above-at : goal.bounds-above-at
bounds-above-at c = table_reaches c.args.rows.now c.args.above.now c.loop-at.at c.loop-at.invariant.0 c.requires.above

pub loop-at-preserved : goal.loop-at-preserved
loop-at-preserved c =
    let rows = c.args.rows.now in
    let parent = parent_at (places_in rows []) in
    let path = c.loop-at.path.items in
    let at = c.loop-at.at in
    let next = c.in-Some.next in
    let lt : at < length rows = c.loop-at.invariant.0 in
    let is : above_in rows at ≡ Some next = read_above rows c.args.above.now at _ lt c.requires.above ∙ c.in-Some.is in
    let up = climbs rows c.requires.parents c.requires.ends (bound rows - vec_len c.loop-at.path) at next lt c.loop-at.invariant.3 is in
    let left : bound rows - vec_len c.loop-at.path - 1 ≡ bound rows - vec_len c.push.new.self = omega (arith, c.in_ok-push.ensures.len) in (
      up.below,
      subst (AllBelow (length rows)) (sym c.in_ok-push.ensures.items) (below-push (length rows) path at c.loop-at.invariant.1 lt),
      λ folder.
          climbs_up rows c.requires.parents c.requires.ends folder path c.args.row (bound rows - vec_len c.loop-at.path) at next lt up (c.loop-at.invariant.2 folder)
          ∙ ap (λ (p : List ℕ). down_to (named_step (source_names rows) folder) p (kept_source rows folder next)) (sym c.in_ok-push.ensures.items),
      subst (λ (n : ℕ). ends_in parent n next ≡ true) left up.ends,
    )

pub returns-clause-source : goal.returns-clause-source
returns-clause-source c =
    let rows = c.args.rows.now in
    let lt : c.loop-at.at < length rows = c.loop-at.invariant.0 in
    λ folder. climbed rows c.requires.parents c.requires.ends folder c.loop-at.path.items c.args.row c.loop-at.at lt (read_above rows c.args.above.now c.loop-at.at _ lt c.requires.above ∙ c.in_default.is) (c.loop-at.invariant.2 folder)
