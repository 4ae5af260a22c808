-- Component by component.
use Rattle.std.proofs.Common.{Some, None, ap, sym, subst, ◌∙◌}
use Rattle.std.specs.List.{AllByRecursion}
use Rattle.std.specs.BTreeSet.{contains}
use Rattle.std.specs.Map.Iter.{deref}
use Rattle.std.proofs.lemmas.Map.Iter.{rest_more, rest_all}
use Rattle.mi_text.specs.Maps.{name_cmp}
use Rattle.mi_schema.specs.declared.package.Package.{Package}
use Rattle.mi_schema.specs.RowsOf.{rows_in, behind}
use Rattle.mi_records.specs.Clients.{IsOwn}
use Rattle.mi_records.proofs.NamedLemmas.{root_first}
use Rattle.mi_records.proofs.GuardLemmas.{one_added}
use Rattle.mi_records.proofs.SeatLemmas.{or_none}
use Rattle.mi_records.proofs.CountLemmas.{counting_none, counting_more, counting_all, own_behind}
use Rattle.mi_records.proofs.counts.add_counts.Goals as goal

pub loop-row-init : goal.loop-row-init
unfolding rows_in
loop-row-init g c =
    let these = c.into_iter-row-iterator.ensures.into_iter_gives ∙ c.values-row-items.ensures.rest in
    record {
      counting = λ w asked guards. counting_none w (g.S.Sees.rows c.args.seen.now) _ _ asked.rows (these ∙ ap (λ (p : Package). behind p.component.entries) c.package-loaded.ensures) guards;
      own = subst (λ (p : Package). AllByRecursion (IsOwn (rows_in p)) c.into_iter-row-iterator.result) c.package-loaded.ensures
          (own_behind c.package-loaded.result.now.component.entries _ c.keys_stand.ensures.component c.keys_apart.ensures.component these);
    }

pub guard_of_count-requires-clause-own : goal.guard_of_count-requires-clause-own
guard_of_count-requires-clause-own g c =
    let next = rest_more deref c.loop-row.row-iterator c.next.new.self c.next.result c.in-Some.row c.in-Some.is c.next.ensures.steps in
    (root_first (IsOwn (rows_in (g.S.Sees.rows c.args.seen.now))) c.loop-row.row-iterator c.next.new.self c.in-Some.row.now next c.loop-row.invariant.own).0

pub loop-row-preserved-in_ok-insert : goal.loop-row-preserved-in_ok-insert
loop-row-preserved-in_ok-insert g c =
    let next = rest_more deref c.loop-row.row-iterator c.next.new.self c.next.result c.in-Some.row c.in-Some.is c.next.ensures.steps in
    record {
      counting = λ w asked guards.
          counting_more w c.loop-row.set c.insert.new.self c.loop-row.row-iterator c.next.new.self c.in-Some.row.now (Some c.in-Some-2.name) (c.loop-row.invariant.counting w asked guards) next (sym c.in-Some-2.is ∙ c.in_ok-name.ensures w asked)
          (λ q. c.in_ok-insert.ensures.updates.0 q ∙ one_added (contains name_cmp c.loop-row.set q) c.in-Some-2.name q);
      own = (root_first (IsOwn (rows_in (g.S.Sees.rows c.args.seen.now))) c.loop-row.row-iterator c.next.new.self c.in-Some.row.now next c.loop-row.invariant.own).1;
    }

pub loop-row-preserved : goal.loop-row-preserved
loop-row-preserved g c =
    let next = rest_more deref c.loop-row.row-iterator c.next.new.self c.next.result c.in-Some.row c.in-Some.is c.next.ensures.steps in
    record {
      counting = λ w asked guards.
          counting_more w c.loop-row.set c.loop-row.set c.loop-row.row-iterator c.next.new.self c.in-Some.row.now None (c.loop-row.invariant.counting w asked guards) next (sym c.in_default.is ∙ c.in_ok-name.ensures w asked)
          (λ q. sym (or_none (contains name_cmp c.loop-row.set q)));
      own = (root_first (IsOwn (rows_in (g.S.Sees.rows c.args.seen.now))) c.loop-row.row-iterator c.next.new.self c.in-Some.row.now next c.loop-row.invariant.own).1;
    }

pub returns : goal.returns
returns g c = λ w asked guards. counting_all w c.loop-row.set c.loop-row.row-iterator (c.loop-row.invariant.counting w asked guards) (rest_all deref c.loop-row.row-iterator c.next.new.self c.next.result c.in-None.is c.next.ensures.steps)
