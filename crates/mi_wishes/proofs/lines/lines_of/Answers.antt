use Rattle.std.proofs.Common.{◌≡◌, ◌<◌, ℕ, length, Option, Some, None, List, refl, ap, ◌∙◌, arith, slice_index_or}
use Rattle.std.specs.Prelude.{slice_index, IfSome}
use Rattle.std.proofs.Math.ListN.{length-set}
use Rattle.mi_schema.specs.declared.typed_rows.FeatureRow.{FeatureRow}
use Rattle.mi_schema.specs.RowsOf.{rows_in, behind}
use Rattle.mi_schema.proofs.CheckLemmas.{are_rows}
use Rattle.mi_wishes.specs.declared.own.Line.{Line}
use Rattle.mi_wishes.specs.Kept.{line_above}
use Rattle.mi_wishes.proofs.LineLemmas.{lines_next, lines_all}
use Rattle.mi_wishes.proofs.MarkLemmas.{parent_is}
use Rattle.mi_wishes.proofs.lines.lines_of.Goals as goal

if_some : (n : ℕ) (o : Option ℕ) → ((p : ℕ) → o ≡ Some p → p < n) → IfSome o (λ p. p < n)
if_some n None h = tt
if_some n (Some p) h = h p refl

pub line_above-above-requires : goal.line_above-above-requires
line_above-above-requires c =
    let r = slice_index c.args.order.now c.loop-place.place-index in
    let lt = c.requires.order.ordered.within c.loop-place.place-index c.loop-place-test.true in
    let size : length c.deref.result.now ≡ length c.args.parents.now = ap length c.deref.ensures.value ∙ c.loop-place.invariant.size in
    if_some (length c.deref.result.now) (slice_index_or c.args.parents.now r None) (λ p e.
    let below = are_rows (λ (r : FeatureRow). r.feature) (λ (r : FeatureRow). r.feature_parent) (behind c.args.loaded.now.feature.entries) c.args.parents.now c.requires.parents r p (parent_is c.args.parents.now r None (Some p) lt e) in
    omega (arith, below, size))

pub loop-place-preserved : goal.loop-place-preserved
unfolding rows_in
loop-place-preserved c =
    let i = c.loop-place.place-index in
    let parents = c.args.parents.now in
    let order = c.args.order.now in
    let r = slice_index order i in
    let lt : r < length parents = c.requires.order.ordered.within i c.loop-place-test.true in
    let table = c.loop-place.lines.items in
    let there : r < length table = let e = c.loop-place.invariant.size in omega (arith, lt, e) in
    record {
      size = length-set table r c.line_at.result ∙ c.loop-place.invariant.size;
      lines = λ L recorded level w b.
          lines_next (rows_in c.args.loaded.now) L recorded level parents order c.requires.parents c.requires.order c.args.wishes.now c.args.brought.now w b i table c.line_above-above.result c.line_at.result (slice_index_or parents r None)
          c.loop-place-test.true (c.loop-place.invariant.lines L recorded level w b) there (parent_is parents r None (slice_index_or parents r None) lt refl)
          (c.line_above-above.ensures ∙ ap (λ (t : List Line). line_above t (slice_index_or parents r None)) c.deref.ensures.value) (λ f at. c.line_at.ensures f at);
    }

pub returns-clause-lines : goal.returns-clause-lines
unfolding rows_in
returns-clause-lines c = λ L recorded level place f w b at.
    lines_all (rows_in c.args.loaded.now) L recorded level c.args.parents.now c.args.order.now c.requires.parents c.requires.order c.loop-place.place-index c.loop-place.lines.items (c.loop-place.invariant.lines L recorded level w b) (omega arith) place f at
