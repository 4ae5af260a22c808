-- One row more, and all of them.
use Rattle.std.proofs.Common.{◌≡◌, [], ◌∷◌, ◌++◌, length, sym, ap, ◌∙◌, arith}
use Rattle.std.specs.Prelude.{Vec}
use Rattle.std.specs.declared.alloc.Global.{Global}
use Rattle.std.proofs.lemmas.List.{length-map}
use Rattle.mi_dirs.specs.declared.rows.DirRow.{DirRow}
use Rattle.mi_schema.specs.RowsOf.{rows_in}
use Rattle.mi_model.specs.Properties.{dir_row}
use Rattle.mi_world.proofs.DirectoryLemmas.{one_behind, none_behind, all_behind}
use Rattle.mi_world.proofs.directories.dir_rows.Goals as goal
use Rattle.mi_world.proofs.directories.dir_rows.Goals.{in-Some+in_ok-dir_row-in-Some+in_ok-push-in-Some, in-None}

pub loop-place-preserved : goal.loop-place-preserved
loop-place-preserved c =
    let rows = (rows_in c.args.loaded.now).directory in
    elim c.match-directory_at.branch [
      | in-Some+in_ok-dir_row-in-Some+in_ok-push-in-Some w ↦
          ap (λ (v : Vec DirRow Global). v.items) w.rows-is
          ∙ one_behind dir_row rows c.loop-place.place w.in-Some.row.now c.loop-place.rows.items w.push.new.self.items (sym w.in-Some.ensures)
          (w.in_ok-push-in-Some.ensures.items ∙ ap (λ (r : DirRow). c.loop-place.rows.items ++ r ∷ []) w.in_ok-dir_row-in-Some.ensures) c.loop-place.invariant
      | in-None w ↦
          ap (λ (v : Vec DirRow Global). v.items) w.rows-is
          ∙ none_behind dir_row rows c.loop-place.place c.loop-place.rows.items (sym w.in-None.ensures) c.loop-place.invariant
    ]

pub returns : goal.returns
unfolding rows_in
returns c =
    let rows = (rows_in c.args.loaded.now).directory in
    let size : length rows ≡ length c.args.loaded.now.directory.entries = length-map c.args.loaded.now.directory.entries (λ e. e.1) in
    all_behind dir_row rows c.loop-place.place c.loop-place.rows.items (omega (arith, size, c.len-place-end.ensures.len, c.loop-place-test.false)) c.loop-place.invariant
