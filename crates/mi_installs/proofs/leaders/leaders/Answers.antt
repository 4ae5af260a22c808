use Rattle.std.proofs.Common.{◌++◌, map, sym, ap, ◌∙◌}
use Rattle.std.specs.Map.Iter.{deref}
use Rattle.std.proofs.lemmas.List.{append-nil}
use Rattle.std.proofs.lemmas.Map.Iter.{rest_more, rest_all}
use Rattle.mi_schema.specs.RowsOf.{rows_in}
use Rattle.mi_schema.proofs.CheckLemmas.{parents_none, parents_more}
use Rattle.mi_installs.specs.Leads.{leader_place}
use Rattle.mi_installs.proofs.leaders.leaders.Goals as goal

pub loop-row-init : goal.loop-row-init
unfolding rows_in
loop-row-init c =
    parents_none (leader_place (rows_in c.args.loaded.now).file) _ _ _ c.in_ok-leaders.ensures.items (c.into_iter-row-iterator.ensures.into_iter_gives ∙ c.values-row-items.ensures.rest)

pub loop-row-preserved : goal.loop-row-preserved
loop-row-preserved c =
    let files = (rows_in c.args.loaded.now).file in
    let next = rest_more deref c.loop-row.row-iterator c.next.new.self c.next.result c.in-Some.row c.in-Some.is c.next.ensures.steps in
    parents_more (leader_place files) c.loop-row.leaders.items c.push.new.self.items files c.loop-row.row-iterator c.next.new.self c.in-Some.row.now c.leader_of.result c.loop-row.invariant next c.in_ok-push.ensures.items c.leader_of.ensures

pub returns : goal.returns
returns c =
    let files = (rows_in c.args.loaded.now).file in
    let end = rest_all deref c.loop-row.row-iterator c.next.new.self c.next.result c.in-None.is c.next.ensures.steps in
    sym (append-nil c.loop-row.leaders.items) ∙ sym (ap (λ l. c.loop-row.leaders.items ++ map (leader_place files) l) end) ∙ c.loop-row.invariant
