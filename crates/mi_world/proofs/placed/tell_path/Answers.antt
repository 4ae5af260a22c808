-- The row at the place, if there is one.
use Rattle.std.proofs.Common.{◌≡◌, List, ℕ, sym, ap, ◌∙◌}
use Rattle.std.specs.FinMap.{insert}
use Rattle.mi_text.specs.Maps.{Name}
use Rattle.mi_schema.specs.declared.typed_rows.FileRow.{FileRow}
use Rattle.mi_schema.specs.RowsOf.{rows_in}
use Rattle.mi_world.specs.Places.{kept_path}
use Rattle.mi_world.proofs.RowLemmas.{told_more, told_none}
use Rattle.mi_world.proofs.placed.tell_path.Goals as goal

pub returns-in_ok-put-in-Some : goal.returns-in_ok-put-in-Some
returns-in_ok-put-in-Some c =
    let row = c.in-Some.row.now in
    let tells = kept_path c.args.directories.now c.args.dirs.now in
    let put : c.put.new.self ≡ insert c.args.files.now row.file (tells row) =
    c.in_ok-put-in-Some.ensures ∙ ap (λ (k : Name). insert c.args.files.now k c.in_ok-path-in-Some.path) c.as_str.ensures ∙ ap (λ (v : List ℕ). insert c.args.files.now row.file v) c.in_ok-path-in-Some.ensures in
    told_more (λ (r : FileRow). r.file) tells (rows_in c.args.loaded.now).file c.args.place c.args.files.now c.put.new.self row (sym c.in-Some.ensures) put

pub returns-in-None : goal.returns-in-None
returns-in-None c = told_none (λ (r : FileRow). r.file) (kept_path c.args.directories.now c.args.dirs.now) (rows_in c.args.loaded.now).file c.args.place c.args.files.now (sym c.in-None.ensures)
