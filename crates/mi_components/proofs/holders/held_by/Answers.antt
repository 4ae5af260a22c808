use Rattle.std.proofs.Common.{List, cond, sym, ap, ◌∙◌}
use Rattle.std.specs.Prelude.{unwrap_or}
use Rattle.std.specs.Ordering.{nat_cmp}
use Rattle.std.specs.Cmp.Lexicographic.{slice_cmp}
use Rattle.std.specs.Map.{lookup}
use Rattle.mi_text.specs.Maps.{Name, same_name}
use Rattle.std.specs.BTreeMap.{is_at}
use Rattle.std.specs.Map.Iter.{deref}
use Rattle.std.proofs.lemmas.Map.Iter.{rest_more, rest_all}
use Rattle.mi_schema.specs.declared.typed_rows.FeatureComponentsRow.{FeatureComponentsRow}
use Rattle.mi_schema.specs.RowsOf.{rows_in}
use Rattle.mi_components.specs.declared.holders.Holders.{Holders}
use Rattle.mi_components.specs.Holders.{nobody, both, held_at, all_say}
use Rattle.mi_components.proofs.HolderLemmas.{both_nobody, say_more}
use Rattle.mi_components.proofs.holders.held_by.Goals as goal

pub loop-row-init : goal.loop-row-init
unfolding rows_in
loop-row-init c = λ q.
    let features = (rows_in c.args.loaded.now).feature in
    let choices = c.args.asked.now.features.items in
    ap (λ es. both (unwrap_or (lookup (is_at (λ k. slice_cmp nat_cmp q k.now)) es) nobody) (all_say features choices c.args.recorded.now c.into_iter-row-iterator.result q)) c.new-held.ensures.empty
    ∙ ap (λ (l : List FeatureComponentsRow). all_say features choices c.args.recorded.now l q) (c.into_iter-row-iterator.ensures.into_iter_gives ∙ c.values-row-items.ensures.rest)

pub loop-row-preserved : goal.loop-row-preserved
loop-row-preserved c = λ q.
    let features = (rows_in c.args.loaded.now).feature in
    let choices = c.args.asked.now.features.items in
    let old = held_at c.loop-row.held q in
    let next = rest_more deref c.loop-row.row-iterator c.next.new.self c.next.result c.in-Some.row c.in-Some.is c.next.ensures.steps in
    say_more features choices c.args.recorded.now q c.in-Some.row.now c.loop-row.row-iterator c.next.new.self old (held_at c.add.new.held q) _ next
    (c.in_ok-add.ensures q ∙ ap (λ (n : Name). cond (same_name q n) (both old c.said_in-holders.result) old) c.as_str.ensures ∙ ap (λ (h : Holders). cond (same_name q c.in-Some.row.now.component) (both old h) old) c.said_in-holders.ensures) (c.loop-row.invariant q)

pub returns : goal.returns
returns c = λ q.
    let features = (rows_in c.args.loaded.now).feature in
    let choices = c.args.asked.now.features.items in
    let end = rest_all deref c.loop-row.row-iterator c.next.new.self c.next.result c.in-None.is c.next.ensures.steps in
    sym (both_nobody (held_at c.loop-row.held q)) ∙ sym (ap (λ (l : List FeatureComponentsRow). both (held_at c.loop-row.held q) (all_say features choices c.args.recorded.now l q)) end) ∙ c.loop-row.invariant q
