use Rattle.std.proofs.Common.{◌≡◌, ◌<◌, ◌+◌, List, length, map, take, refl, sym, ap, subst, ◌∙◌, true, arith}
use Rattle.std.proofs.lemmas.Result.{err_from_is_err_and}
use Rattle.std.proofs.Math.Seq.{take-length}
use Rattle.std.specs.HashSet.{HashSet}
use Rattle.std.specs.Prelude.{String}
use Rattle.std.specs.declared.alloc.Global.{Global}
use Rattle.mi_idt.specs.Means.{meaning}
use Rattle.mi_rows.specs.Columns.{table_as, Table}
use Rattle.mi_rows.specs.Reads.{KnowsKeys, keys_asked, IsSeen}
use Rattle.mi_rows.specs.Typed.{keyed}
use Rattle.mi_rows.specs.Values.{KeysTell, Row, row_of, keys_tell}
use Rattle.mi_rows.proofs.FitLemmas.{rows_long}
use Rattle.mi_rows.proofs.KnownLemmas.{asked, has_begun, suits_here, spelled_differ}
use Rattle.mi_rows.proofs.RowLemmas.{before_more, rows_more, rows_fault_here, rows_all, passed_on}
use Rattle.mi_rows.proofs.RowsLemmas.{suits_more, differ_front, entries_more}
use Rattle.mi_rows.proofs.Words.{each_suits, KeysDiffer}
use Rattle.mi_rows.proofs.row.fill_rows.Goals as goal

pub read_typed-requires-clause-columns : goal.read_typed-requires-clause-columns
read_typed-requires-clause-columns g c = has_begun (table_as c.args.layout.now).columns (meaning c.args.table.now) c.requires.columns

pub read_typed-requires-clause-knows : goal.read_typed-requires-clause-knows
read_typed-requires-clause-knows g c = (keys_asked (table_as c.args.layout.now) (meaning c.args.table.now), c.loop-number.invariant.knows)

pub read_typed-requires-clause-seen : goal.read_typed-requires-clause-seen
read_typed-requires-clause-seen g c = (_, c.loop-number.invariant.seen)

pub loop-number-init : goal.loop-number-init
loop-number-init g c = record { rows = c.requires.none; suit = refl; seen = c.requires.seen; knows = c.requires.knows; memory = c.requires.memory; fault = refl }

pub returns-in_err-key : goal.returns-in_err-key
returns-in_err-key g c =
    let t = table_as c.args.layout.now in
    let v = meaning c.args.table.now in
    let long = rows_long c.args.table.now in
    let lt : c.loop-number.number < length v.rows = omega (arith, long, c.loop-number-test.true, c.len-number-end.ensures, c.args.table.now.rows.ok) in
    let p = err_from_is_err_and c.from_residual.result c.from_residual.ensures.1 in
    rw (p.1, p.2) (passed_on ⊥ ⊥ (λ x. x) _ _ (λ f some. sym (asked t v) ∙ rows_fault_here t (keys_asked t v) v.rows c.loop-number.number lt c.loop-number.invariant.fault f some) c.in_err-key.field-0.0
    (c.in_err-key.ensures.read (keys_asked t v) _ c.loop-number.invariant.knows c.loop-number.invariant.seen))

pub loop-number-preserved : goal.loop-number-preserved
loop-number-preserved g c =
    let t = table_as c.args.layout.now in
    let v = meaning c.args.table.now in
    let n = c.loop-number.number in
    let long = rows_long c.args.table.now in
    let lt : n < length v.rows = omega (arith, long, c.loop-number-test.true, c.len-number-end.ensures, c.args.table.now.rows.ok) in
    let here : n < length c.args.table.now.rows.items = omega (arith, long, lt) in
    let read = c.in_ok-key.ensures.read (keys_asked t v) _ c.loop-number.invariant.knows c.loop-number.invariant.seen in
    let more = before_more t (keys_asked t v) v.rows n lt c.loop-number.invariant.fault in
    let suit = suits_here t c.args.table.now c.requires.spelled (has_begun t.columns v c.requires.columns) n here _ _ _ read.0 in
    let same : t ≡ g.R.TableRow.layout = c.requires.is in
    let tell : keys_tell t.columns ≡ true = ap (λ (u : Table). keys_tell u.columns) same ∙ g.R.TableRow.readable.1 in
    let apart = differ_front t.columns v.rows (n + 1) (spelled_differ t c.args.table.now tell c.requires.spelled c.requires.columns) in
    let told = subst (λ (u : Table). KeysTell g.K.PartialEq.eq g.K.Key.key u.columns) (sym same) c.requires.apart in
    record {
      rows = entries_more g.K.PartialEq.eq t.columns g.K.Key.key g.R.TableRow.value told _ _ _ _ _ _
          c.loop-number.invariant.suit suit (subst (KeysDiffer t.columns) (sym more) apart) c.loop-number.invariant.rows c.in_ok-insert.ensures.entries read.1
          ∙ ap (keyed g.K.Key.key g.R.TableRow.value) more;
      suit = subst (λ (rows : List Row). each_suits t.columns rows ≡ true) more (suits_more t.columns _ _ c.loop-number.invariant.suit suit);
      seen = subst (IsSeen _) more (c.in_ok-key.ensures.seen _ c.loop-number.invariant.seen);
      knows = subst (λ (texts : HashSet (String Global) _). KnowsKeys texts (keys_asked t v)) (sym c.in_ok-key.ensures.keys) c.loop-number.invariant.knows;
      memory = c.in_ok-key.ensures.memory;
      fault = rows_more t (keys_asked t v) v.rows n lt c.loop-number.invariant.fault read.0;
    }

pub returns : goal.returns
returns g c =
    let t = table_as c.args.layout.now in
    let v = meaning c.args.table.now in
    let long = rows_long c.args.table.now in
    let all : c.loop-number.number ≡ length v.rows = omega (arith, long, c.loop-number-test.false, c.loop-number.auto.number-end, c.len-number-end.ensures, c.args.table.now.rows.ok) in (
      sym (asked t v) ∙ rows_all t (keys_asked t v) v.rows c.loop-number.number all c.loop-number.invariant.fault,
      c.loop-number.invariant.rows ∙ ap (λ n. keyed g.K.Key.key g.R.TableRow.value (map (row_of t.columns) (take n v.rows))) all ∙ ap (λ rows. keyed g.K.Key.key g.R.TableRow.value (map (row_of t.columns) rows)) (take-length v.rows),
    )
