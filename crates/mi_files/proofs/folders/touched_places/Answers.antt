-- Row by row.
use Rattle.std.proofs.Common.{ℕ, Bor, List, Option, Some, None, ap, sym, ◌∙◌, arith}
use Rattle.std.specs.Prelude.{option_map}
use Rattle.std.specs.List.{filter_map}
use Rattle.std.specs.Option.{option_copied}
use Rattle.std.proofs.lemmas.List.{append-nil, take_all}
use Rattle.mi_text.specs.Fold.{folded}
use Rattle.mi_dirs.specs.Places.{target_of}
use Rattle.mi_schema.specs.declared.typed_rows.CreateFolderRow.{CreateFolderRow}
use Rattle.mi_records.proofs.NamedLemmas.{picked_one}
use Rattle.mi_files.proofs.FolderLemmas.{rows_touch}
use Rattle.mi_files.proofs.folders.touched_places.Goals as goal
use Rattle.mi_files.proofs.folders.touched_places.Goals.{in-Some+in_ok-place+in_ok-push, in_default}

pub loop-row-preserved : goal.loop-row-preserved
loop-row-preserved g c =
    let dirs = (g.E.Sees.choices c.args.seen.now).dirs in
    let pick : ℕ × Bor CreateFolderRow → Option (List ℕ) = λ r. option_map folded (target_of dirs r.1.now.directory) in
    let told = c.target.ensures.target ∙ ap (target_of dirs) c.as_str.ensures in
    elim c.match-target.branch [
      | in-Some+in_ok-place+in_ok-push w ↦
          picked_one pick c.args.rows.now c.loop-row.row-index c.row-item.result (Some w.in_ok-place.place) c.loop-row.places.items c.match-target.places.items c.loop-row-test.true c.row-item.is
          (ap Some (w.in_ok-place.ensures ∙ ap folded w.as_str-in-Some.ensures.text) ∙ ap (option_map folded) (ap option_copied (sym w.in-Some.is) ∙ told))
          c.loop-row.invariant (ap (λ v. v.items) w.places-is ∙ w.in_ok-push.ensures.items)
      | in_default w ↦
          picked_one pick c.args.rows.now c.loop-row.row-index c.row-item.result None c.loop-row.places.items c.match-target.places.items c.loop-row-test.true c.row-item.is
          (ap (option_map folded) (ap option_copied (sym w.in_default.is) ∙ told))
          c.loop-row.invariant (ap (λ v. v.items) w.places-is ∙ sym (append-nil c.loop-row.places.items))
    ]

pub returns : goal.returns
returns g c = λ w asked.
    let choices = g.E.Sees.choices c.args.seen.now in
    let pick : ℕ × Bor CreateFolderRow → Option (List ℕ) = λ r. option_map folded (target_of choices.dirs r.1.now.directory) in
    c.loop-row.invariant
    ∙ ap (filter_map pick) (take_all c.loop-row.row-index c.args.rows.now (omega (arith, c.loop-row-test.false)))
    ∙ rows_touch (g.E.Env.lookups c.args.seen.now) choices (g.E.Sees.rows c.args.seen.now) w asked c.args.rows.now
