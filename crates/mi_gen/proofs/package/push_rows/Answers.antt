use Rattle.std.proofs.Common.{◌∙◌, ◌+◌, ◌++◌, ℕ, Vec, Global, sym, ap}
use Rattle.mi_gen.proofs.RowLemmas.{written_from, row_next, no_row_next}
use Rattle.mi_gen.proofs.package.push_rows.Goals as goal
use Rattle.mi_gen.proofs.package.push_rows.Goals.{then-has_row+in_ok-push_row, else-has_row}

pub loop-file-preserved : goal.loop-file-preserved
loop-file-preserved c =
    elim c.if-has_row.branch [
      | then-has_row+in_ok-push_row w ↦
          ap (λ (v : Vec ℕ Global). v.items ++ written_from c.args.table (c.loop-file.file + 1) c.args.files) w.out-is
          ∙ sym (row_next c.args.table c.loop-file.file c.args.files c.loop-file.out.items w.push_row.new.out.items c.loop-file-test.true (sym c.has_row.ensures ∙ w.if-has_row.true) w.in_ok-push_row.ensures)
          ∙ c.loop-file.invariant
      | else-has_row w ↦
          ap (λ (v : Vec ℕ Global). v.items ++ written_from c.args.table (c.loop-file.file + 1) c.args.files) w.out-is
          ∙ sym (no_row_next c.args.table c.loop-file.file c.args.files c.loop-file.out.items c.loop-file-test.true (sym c.has_row.ensures ∙ w.if-has_row.false))
          ∙ c.loop-file.invariant
    ]
