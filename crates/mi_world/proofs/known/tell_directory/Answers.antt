-- The row at the place, if there is one.
use Rattle.std.proofs.Common.{◌≡◌, List, ℕ, sym, ap, ◌∙◌}
use Rattle.std.specs.FinMap.{insert}
use Rattle.mi_text.specs.Maps.{Name}
use Rattle.mi_schema.specs.declared.typed_rows.ComponentRow.{ComponentRow}
use Rattle.mi_schema.specs.RowsOf.{rows_in}
use Rattle.mi_world.proofs.RowLemmas.{told_more, told_none}
use Rattle.mi_world.proofs.known.tell_directory.Goals as goal

pub returns-in_ok-put-in-Some : goal.returns-in_ok-put-in-Some
returns-in_ok-put-in-Some c =
    let row = c.in-Some.row.now in
    let put : c.put.new.self ≡ insert c.args.table.now row.component row.directory =
    c.in_ok-put-in-Some.ensures ∙ ap (λ (k : Name). insert c.args.table.now k c.in_ok-directory-in-Some.directory) c.as_str-in-Some.ensures ∙ ap (λ (v : List ℕ). insert c.args.table.now row.component v) (c.in_ok-directory-in-Some.ensures ∙ c.as_str.ensures) in
    told_more (λ (r : ComponentRow). r.component) (λ r. r.directory) (rows_in c.args.loaded.now).component c.args.place c.args.table.now c.put.new.self row (sym c.in-Some.ensures) put

pub returns-in-None : goal.returns-in-None
returns-in-None c = told_none (λ (r : ComponentRow). r.component) (λ r. r.directory) (rows_in c.args.loaded.now).component c.args.place c.args.table.now (sym c.in-None.ensures)
