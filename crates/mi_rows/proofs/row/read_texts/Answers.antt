use Rattle.std.proofs.Common.{◌≡◌, ◌<◌, ◌∷◌, [], ◌++◌, length, true, ap, sym, subst, ◌∙◌, arith}
use Rattle.std.proofs.lemmas.Result.{err_from_is_err_and}
use Rattle.mi_rows.specs.Fields.{values_of, last_condition}
use Rattle.mi_rows.specs.Columns.{table_as, Table}
use Rattle.mi_rows.specs.Reads.{IsSeen, raw_row}
use Rattle.mi_rows.specs.Values.{all_suit, Row, row_of}
use Rattle.mi_rows.proofs.KnownLemmas.{suits_here}
use Rattle.mi_rows.proofs.row.read_texts.Goals as goal

pub returns-in_err-read_row-clause-read : goal.returns-in_err-read_row-clause-read
returns-in_err-read_row-clause-read g c = λ keys before knows seen.
    let p = err_from_is_err_and c.from_residual.result c.from_residual.ensures.1 in
    rw (p.1, p.2) (c.in_err-read_row.ensures keys before knows seen)

pub take_row-requires : goal.take_row-requires
take_row-requires g c =
    let t = table_as c.args.layout.now in
    let read = c.in_ok-read_row.ensures c.requires.knows.0 c.requires.seen.0 c.requires.knows.1 c.requires.seen.1 in
    let here : c.args.number < length c.args.table.now.rows.items = omega (arith, c.requires.in_range, c.args.table.now.rows.ok) in
    let row : Row = row_of t.columns (raw_row c.args.table.now c.args.number) in
    let same : values_of c.as_slice-2.result.now ≡ row = ap values_of c.as_slice-2.ensures.value ∙ read.1.values in
    record {
      suits = ap (all_suit g.R.TableRow.layout.columns) same ∙ subst (λ (u : Table). all_suit u.columns row ≡ true) c.requires.is (suits_here t c.args.table.now c.requires.spelled c.requires.columns c.args.number here _ _ _ read.0);
      condition = read.1.condition ∙ ap last_condition (sym same);
    }

pub returns-clause-read : goal.returns-clause-read
returns-clause-read g c = λ keys before knows seen.
    let read = c.in_ok-read_row.ensures keys before knows seen in
    (read.0, c.in_ok-take_row.ensures.values ∙ ap (λ (row : Row). (g.K.Key.key row, g.R.TableRow.value row)) (ap values_of c.as_slice-2.ensures.value ∙ read.1.values))

pub returns-clause-seen : goal.returns-clause-seen
returns-clause-seen g c = λ before seen.
    let read = c.in_ok-read_row.ensures c.requires.knows.0 before c.requires.knows.1 seen in
    subst (λ (row : Row). IsSeen c.add.new.self (before ++ row ∷ [])) (ap values_of c.as_slice.ensures.value ∙ read.1.values) (c.in_ok-add.ensures.rows before seen)
