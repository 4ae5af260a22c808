use Rattle.std.proofs.Common.{◌++◌, map, option_and_then, sym, ap, ◌∙◌}
use Rattle.std.specs.Map.{keys_of}
use Rattle.mi_schema.specs.Checks.{row_with}
use Rattle.std.specs.Map.Iter.{deref}
use Rattle.std.proofs.lemmas.List.{append-nil}
use Rattle.std.proofs.lemmas.Map.Iter.{rest_more, rest_all}
use Rattle.mi_schema.specs.RowsOf.{behind}
use Rattle.mi_wishes.proofs.RowLemmas.{mapped_none, mapped_more}
use Rattle.mi_features.proofs.chain.parents_of.Goals as goal

pub loop-row-init : goal.loop-row-init
loop-row-init c =
    mapped_none (λ r. option_and_then (row_with (keys_of c.args.loaded.now.feature.entries)) r.feature_parent) _ _ _ c.in_ok-parents.ensures.items (c.into_iter-row-iterator.ensures.into_iter_gives ∙ c.values-row-items.ensures.rest)

pub loop-row-preserved : goal.loop-row-preserved
loop-row-preserved c =
    let next = rest_more deref c.loop-row.row-iterator c.next.new.self c.next.result c.in-Some.row c.in-Some.is c.next.ensures.steps in
    mapped_more (λ r. option_and_then (row_with (keys_of c.args.loaded.now.feature.entries)) r.feature_parent) c.loop-row.parents.items c.push.new.self.items (behind c.args.loaded.now.feature.entries)
    c.loop-row.row-iterator c.next.new.self c.in-Some.row.now c.parent_of.result c.loop-row.invariant next c.in_ok-push.ensures.items c.parent_of.ensures

pub returns : goal.returns
returns c =
    let end = rest_all deref c.loop-row.row-iterator c.next.new.self c.next.result c.in-None.is c.next.ensures.steps in
    sym (append-nil c.loop-row.parents.items) ∙ sym (ap (λ l. c.loop-row.parents.items ++ map (λ r. option_and_then (row_with (keys_of c.args.loaded.now.feature.entries)) r.feature_parent) l) end) ∙ c.loop-row.invariant
