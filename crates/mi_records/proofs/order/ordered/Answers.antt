-- From the last row to the first.
use Rattle.std.proofs.Common.{List, subst, sym}
use Rattle.mi_schema.specs.RowsOf.{behind}
use Rattle.mi_records.specs.Order.{Place, AreRowsOf}
use Rattle.mi_records.proofs.OrderLemmas.{ordered_start, ordered_below, ordered_end}
use Rattle.mi_records.proofs.order.ordered.Goals as goal

pub loop-place-init : goal.loop-place-init
loop-place-init g c = record {
  order = λ key keys. ordered_start key c.args.rows.now.entries c.len-place.result c.new-ordered.result.entries c.len-place.ensures.len c.new-ordered.ensures.empty;
  each = subst (λ (es : List (Place g.row.R.Denot)). AreRowsOf c.args.rows.now.entries es) (sym c.new-ordered.ensures.empty) tt;
}

pub loop-place-preserved : goal.loop-place-preserved
loop-place-preserved g c = record {
  order = λ key keys. c.in_ok-put.ensures.order key keys (ordered_below key (behind c.args.rows.now.entries) c.loop-place.place c.loop-place.ordered.entries c.loop-place-test.true (c.loop-place.invariant.order key keys));
  each = c.in_ok-put.ensures.each c.loop-place.invariant.each;
}

pub returns-clause-order : goal.returns-clause-order
returns-clause-order g c = λ key keys. ordered_end key (behind c.args.rows.now.entries) c.loop-place.place c.loop-place.ordered.entries c.loop-place-test.false (c.loop-place.invariant.order key keys)

pub returns-clause-each : goal.returns-clause-each
returns-clause-each g c = c.loop-place.invariant.each
