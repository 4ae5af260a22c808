use Rattle.std.proofs.Common.{List, None, sym, ap, ◌∙◌}
use Rattle.std.specs.Ordering.{nat_cmp}
use Rattle.std.specs.Cmp.Lexicographic.{slice_cmp}
use Rattle.std.specs.Map.{lookup}
use Rattle.std.specs.BTreeMap.{is_at}
use Rattle.mi_schema.specs.declared.typed_rows.ConditionRow.{ConditionRow}
use Rattle.mi_schema.specs.RowsOf.{rows_in}
use Rattle.mi_wishes.specs.Levels.{levels_in, level_at}
use Rattle.mi_wishes.proofs.LevelLemmas.{raise_all, raise_none, raise_row}
use Rattle.std.specs.Map.Iter.{deref}
use Rattle.std.proofs.lemmas.Map.Iter.{rest_more, rest_all}
use Rattle.mi_wishes.proofs.levels.levels_of.Goals as goal

pub loop-row-init : goal.loop-row-init
unfolding rows_in
loop-row-init g c = λ q.
    let L = g.E.Env.lookups c.args.env.now in
    ap (λ es. raise_all (lookup (is_at (λ k. slice_cmp nat_cmp q k.now)) es) (levels_in L q c.into_iter-row-iterator.result)) c.new-levels.ensures.empty
    ∙ ap (λ (l : List ConditionRow). raise_all None (levels_in L q l)) (c.into_iter-row-iterator.ensures.into_iter_gives ∙ c.values-row-items.ensures.rest)
    ∙ raise_none (levels_in L q (rows_in c.args.loaded.now).condition)

pub loop-row-preserved : goal.loop-row-preserved
loop-row-preserved g c = λ q.
    let L = g.E.Env.lookups c.args.env.now in
    let next = rest_more deref c.loop-row.row-iterator c.next.new.self c.next.result c.in-Some.row c.in-Some.is c.next.ensures.steps in
    raise_row L q c.in-Some.row.now c.loop-row.row-iterator c.next.new.self _ _ _ next (c.in_ok-raise_by.ensures q) (c.loop-row.invariant q)

pub returns : goal.returns
returns g c = λ q.
    let L = g.E.Env.lookups c.args.env.now in
    let end = rest_all deref c.loop-row.row-iterator c.next.new.self c.next.result c.in-None.is c.next.ensures.steps in
    sym (ap (λ (l : List ConditionRow). raise_all (level_at c.loop-row.levels q) (levels_in L q l)) end) ∙ c.loop-row.invariant q
