use Rattle.std.proofs.Common.{Some, refl, ap, sym, ◌∙◌, arith}
use Rattle.mi_base.specs.declared.answers.Fault.TheVariants.{Unsupported}
use Rattle.mi_idt.specs.Means.{meaning}
use Rattle.mi_rows.specs.Columns.{refused}
use Rattle.mi_rows.proofs.FitLemmas.{rows_long}
use Rattle.mi_rows.proofs.TableLemmas.{refused_none, refused_some, is_zero, is_more}
use Rattle.mi_rows.proofs.table.refuse_spelled.Goals as goal

pub returns-then-is_empty : goal.returns-then-is_empty
returns-then-is_empty c =
    let long = rows_long c.args.table.now in
    ((refused_none (refused c.args.name.now) (meaning c.args.table.now) refl (let none = is_zero _ _ c.is_empty.ensures c.if-is_empty.true in omega (arith, long, none, c.args.table.now.rows.ok))).0, tt)

pub returns : goal.returns
returns c =
    let long = rows_long c.args.table.now in
    refused_some (refused c.args.name.now) (meaning c.args.table.now) refl (let some = is_more _ _ c.is_empty.ensures c.if-is_empty.false in omega (arith, long, some, c.args.table.now.rows.ok))
    ∙ ap (λ n. Some (Unsupported n)) (sym c.in_ok-name.ensures)
