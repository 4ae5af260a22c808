use Rattle.std.proofs.Common.{◌≡◌, Option, Some, false, ap, sym, subst, ◌∙◌}
use Rattle.std.proofs.lemmas.Result.{err_from_is_err_and}
use Rattle.mi_base.specs.declared.answers.Fault.{Fault}
use Rattle.mi_base.specs.declared.answers.Fault.TheVariants.{Columns}
use Rattle.mi_idt.specs.Means.{meaning}
use Rattle.mi_rows.specs.Reads.{Fails}
use Rattle.mi_rows.specs.Columns.{table_as}
use Rattle.mi_rows.specs.Rows.{is_refused}
use Rattle.mi_rows.proofs.KnownLemmas.{value_known, value_other}
use Rattle.mi_rows.proofs.table.read_spelled.Goals as goal

pub returns-then-not-has_columns : goal.returns-then-not-has_columns
returns-then-not-has_columns g c =
    let t = table_as c.args.layout.now in
    let known : is_refused t ≡ false = ap is_refused c.requires.is ∙ g.R.TableRow.readable.0 in
    value_other t (meaning c.args.table.now) known _ c.has_columns.ensures c.if-not-has_columns.true ∙ ap (λ n. Some (Columns n)) (sym c.in_ok-name.ensures)

pub returns-in_err-rows : goal.returns-in_err-rows
returns-in_err-rows g c =
    let p = err_from_is_err_and c.from_residual-in_err-rows.result c.from_residual-in_err-rows.ensures.1 in
    let t = table_as c.args.layout.now in
    let known : is_refused t ≡ false = ap is_refused c.requires.is ∙ g.R.TableRow.readable.0 in
    rw (p.1, p.2) (subst (λ (o : Option Fault). Fails ⊥ o c.in_err-rows.field-0.0) (sym (value_known t (meaning c.args.table.now) known _ c.has_columns.ensures c.if-not-has_columns.false)) c.in_err-rows.ensures)

pub returns : goal.returns
returns g c =
    let t = table_as c.args.layout.now in
    let known : is_refused t ≡ false = ap is_refused c.requires.is ∙ g.R.TableRow.readable.0 in
    (value_known t (meaning c.args.table.now) known _ c.has_columns.ensures c.if-not-has_columns.false ∙ c.in_ok-rows.ensures.0, c.in_ok-rows.ensures.1)
