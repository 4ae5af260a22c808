use Rattle.std.proofs.Common.{◌++◌, map, sym, ap, ◌∙◌}
use Rattle.mi_wishes.specs.Brought.{is_bringing}
use Rattle.std.specs.Map.Iter.{deref}
use Rattle.std.proofs.lemmas.List.{append-nil}
use Rattle.std.proofs.lemmas.Map.Iter.{rest_more, rest_all}
use Rattle.mi_schema.specs.RowsOf.{behind}
use Rattle.mi_wishes.proofs.RowLemmas.{mapped_none, mapped_more}
use Rattle.mi_wishes.proofs.adding.bringing.Goals as goal

pub loop-row-init : goal.loop-row-init
loop-row-init c =
    mapped_none (is_bringing c.args.wishes.now c.args.list.now) _ _ _ c.in_ok-marks.ensures.items (c.into_iter-row-iterator.ensures.into_iter_gives ∙ c.values-row-items.ensures.rest)

pub loop-row-preserved : goal.loop-row-preserved
loop-row-preserved c =
    let next = rest_more deref c.loop-row.row-iterator c.next.new.self c.next.result c.in-Some.row c.in-Some.is c.next.ensures.steps in
    mapped_more (is_bringing c.args.wishes.now c.args.list.now) c.loop-row.marks.items c.push.new.self.items (behind c.args.loaded.now.feature.entries)
    c.loop-row.row-iterator c.next.new.self c.in-Some.row.now c.is_bringing.result c.loop-row.invariant next c.in_ok-push.ensures.items c.is_bringing.ensures

pub returns : goal.returns
returns c =
    let end = rest_all deref c.loop-row.row-iterator c.next.new.self c.next.result c.in-None.is c.next.ensures.steps in
    sym (append-nil c.loop-row.marks.items) ∙ sym (ap (λ l. c.loop-row.marks.items ++ map (is_bringing c.args.wishes.now c.args.list.now) l) end) ∙ c.loop-row.invariant
