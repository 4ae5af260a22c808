use Rattle.std.proofs.Common.{◌≡◌, ◌++◌, sym, subst, OnOk, inl, inr}
use Rattle.mi_idt.specs.Cells.{Cell}
use Rattle.mi_idt.specs.Written.{written_cell}
use Rattle.mi_idt.proofs.Joins.{nothing_added, raw_cell_at, out_of_cells}
use Rattle.mi_idt.proofs.keys.push_cell.Goals as goal

pub returns-then-place-columns : goal.returns-then-place-columns
returns-then-place-columns c = nothing_added c.args.out.now.items _ (out_of_cells c.args.columns.now c.args.fields.now c.args.place (inl c.if-place-columns.true))

pub returns-then-place-fields : goal.returns-then-place-fields
returns-then-place-fields c = nothing_added c.args.out.now.items _ (out_of_cells c.args.columns.now c.args.fields.now c.args.place (inr c.if-place-fields.true))

pub returns : goal.returns
returns c = subst (λ (x : Cell). OnOk c.push_field.result (c.push_field.new.out.items ≡ c.args.out.now.items ++ written_cell x)) (sym (raw_cell_at c.args.columns.now c.args.fields.now c.args.place _ _ c.as_bytes.result.now c.if-place-columns.false c.if-place-fields.false c.as_bytes.ensures.value)) c.push_field.ensures
