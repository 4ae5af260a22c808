-- The phases RemoveFiles and RemoveDuplicateFiles.
use Rattle.std.proofs.Common.{◌≡◌, ℕ, Bool, true, false, cond, ◌&&◌, ◌||◌, List, [], ◌∷◌, ◌++◌, map, Bor, Option, refl, sym, ap, ◌∙◌}
use Rattle.std.specs.Prelude.{filter, Ok}
use Rattle.std.specs.List.{filter_map, cons_option}
use Rattle.std.proofs.lemmas.List.{map-append}
use Rattle.mi_text.specs.Fold.{folded}
use Rattle.mi_text.specs.Lookups.{Lookups}
use Rattle.mi_schema.specs.declared.package.Package.{Package}
use Rattle.mi_schema.specs.declared.typed_rows.DuplicateFileRow.{DuplicateFileRow}
use Rattle.mi_schema.specs.declared.typed_rows.FileRow.{FileRow}
use Rattle.mi_schema.specs.declared.typed_rows.RemoveFileRow.{RemoveFileRow}
use Rattle.mi_schema.specs.RowsOf.{rows_in}
use Rattle.mi_schema.specs.TableRows.{Numbered, in_key_order, Rows as TableRows}
use Rattle.mi_model.specs.Texts.{Text}
use Rattle.mi_model.specs.World.{World, RowEffect}
use Rattle.mi_model.specs.Asked.{leaves}
use Rattle.mi_model.specs.Conditions.{has}
use Rattle.mi_model.specs.DuplicateFiles as copies
use Rattle.mi_model.specs.DuplicateFiles.{copy_rows, removed_copy, remove_duplicate_files}
use Rattle.mi_model.specs.Prune.{prune_folders}
use Rattle.mi_model.specs.RemoveFiles as model
use Rattle.mi_model.specs.RemoveFiles.{leaving_files, rows_in_force, removed_file, removed_by_pattern, remove_files}
use Rattle.mi_records.specs.Choices.{Choices, IsAsked}
use Rattle.mi_records.specs.Order.{as_numbered}
use Rattle.mi_records.proofs.PhaseLemmas.{map-over}
use Rattle.mi_files.specs.Taking.{is_in_force, folder_above, folder_of_copy, folder_touched, touched_more}

-- ---- the rows that are taken

taken_seen : {R : Type 0} (test : R → Bool) (other : R → Bool) → ((r : R) → test r ≡ other r) → (rows : List (ℕ × Bor R)) → filter (λ (r : Numbered R). test r.row) (map as_numbered rows) ≡ map as_numbered (filter (λ r. other r.1.now) rows)
taken_seen test other same [] = refl
taken_seen {R} test other same (r ∷ rows) =
    ap (λ b. cond b (as_numbered r ∷ filter (λ (r : Numbered R). test r.row) (map as_numbered rows)) (filter (λ (r : Numbered R). test r.row) (map as_numbered rows))) (same r.1.now)
    ∙ elim (other r.1.now) as (λ b. cond b (as_numbered r ∷ filter (λ (r : Numbered R). test r.row) (map as_numbered rows)) (filter (λ (r : Numbered R). test r.row) (map as_numbered rows)) ≡ map as_numbered (cond b (r ∷ filter (λ r. other r.1.now) rows) (filter (λ r. other r.1.now) rows))) [
      | true ↦ ap (λ (ns : List (Numbered R)). as_numbered r ∷ ns) (taken_seen test other same rows)
      | false ↦ taken_seen test other same rows
    ]

module _ (L : Lookups) (c : Choices) (p : Package) (w : World) (asked : IsAsked L c p w) where
  pub leaving_are : (rows : List (ℕ × Bor FileRow)) → map as_numbered rows ≡ in_key_order (λ (r : FileRow). r.file) (rows_in p).file → map as_numbered (filter (λ r. c.leaving r.1.now.component) rows) ≡ leaving_files w
  leaving_are rows is =
      sym (taken_seen (λ (r : FileRow). leaves w r.component) (λ (r : FileRow). c.leaving r.component) (λ r. asked.leaving r.component) rows)
      ∙ ap (λ (ns : List (Numbered FileRow)). filter (λ (r : Numbered FileRow). leaves w r.row.component) ns) (is ∙ ap (λ (rs : TableRows). in_key_order (λ (r : FileRow). r.file) rs.file) (sym asked.rows))

  pub copies_are : (rows : List (ℕ × Bor DuplicateFileRow)) → map as_numbered rows ≡ in_key_order (λ (r : DuplicateFileRow). r.file_key) (rows_in p).duplicate_file → map as_numbered (filter (λ r. c.leaving r.1.now.component) rows) ≡ copy_rows (leaves w) w
  copies_are rows is =
      sym (taken_seen (λ (r : DuplicateFileRow). leaves w r.component) (λ (r : DuplicateFileRow). c.leaving r.component) (λ r. asked.leaving r.component) rows)
      ∙ ap (λ (ns : List (Numbered DuplicateFileRow)). filter (λ (r : Numbered DuplicateFileRow). leaves w r.row.component) ns) (is ∙ ap (λ (rs : TableRows). in_key_order (λ (r : DuplicateFileRow). r.file_key) rs.duplicate_file) (sym asked.rows))

  force_is : (r : RemoveFileRow) → model.is_in_force w r ≡ is_in_force c r
  force_is r =
      ap (λ b. (b && has 1 r.install_mode) || (leaves w r.component && has 2 r.install_mode)) (asked.local r.component)
      ∙ ap (λ b. (c.local r.component && has 1 r.install_mode) || (b && has 2 r.install_mode)) (asked.leaving r.component)

  pub in_force_are : (rows : List (ℕ × Bor RemoveFileRow)) → map as_numbered rows ≡ in_key_order (λ (r : RemoveFileRow). r.file_key) (rows_in p).remove_file → map as_numbered (filter (λ r. is_in_force c r.1.now) rows) ≡ rows_in_force w
  in_force_are rows is =
      sym (taken_seen (model.is_in_force w) (is_in_force c) force_is rows)
      ∙ ap (λ (ns : List (Numbered RemoveFileRow)). filter (λ (r : Numbered RemoveFileRow). model.is_in_force w r.row) ns) (is ∙ ap (λ (rs : TableRows). in_key_order (λ (r : RemoveFileRow). r.file_key) rs.remove_file) (sym asked.rows))

-- ---- the folders that rows touch

told_seen : {R : Type 0} (tell : R → Option Text) (rows : List (ℕ × Bor R)) → filter_map (λ (r : ℕ × Bor R). tell r.1.now) rows ≡ filter_map (λ (r : Numbered R). tell r.row) (map as_numbered rows)
told_seen tell [] = refl
told_seen tell (r ∷ rows) = ap (cons_option (tell r.1.now)) (told_seen tell rows)

pub touched_are : (w : World) (leaving : List (ℕ × Bor FileRow)) (force : List (ℕ × Bor RemoveFileRow)) (none touched : List (List ℕ)) → map as_numbered leaving ≡ leaving_files w → map as_numbered force ≡ rows_in_force w → none ≡ []
    → touched ≡ touched_more (λ r. folder_touched w r.1.now) force (touched_more (λ r. folder_above w r.1.now) leaving none) → touched ≡ map folded (model.touched_folders w)
touched_are w leaving force none touched one two empty is =
    is
    ∙ ap (λ (l : List (List ℕ)). touched_more (λ (r : ℕ × Bor RemoveFileRow). folder_touched w r.1.now) force (touched_more (λ (r : ℕ × Bor FileRow). folder_above w r.1.now) leaving l)) empty
    ∙ sym (map-append folded (filter_map (λ r. folder_above w r.1.now) leaving) (filter_map (λ r. folder_touched w r.1.now) force))
    ∙ ap (λ (fs : List Text). map folded (fs ++ filter_map (λ r. folder_touched w r.1.now) force)) (told_seen (folder_above w) leaving ∙ ap (filter_map (λ (r : Numbered FileRow). folder_above w r.row)) one)
    ∙ ap (λ (fs : List Text). map folded (filter_map (λ (r : Numbered FileRow). folder_above w r.row) (leaving_files w) ++ fs)) (told_seen (folder_touched w) force ∙ ap (filter_map (λ (r : Numbered RemoveFileRow). folder_touched w r.row)) two)

pub copies_touched : (w : World) (leaving : List (ℕ × Bor DuplicateFileRow)) (none touched : List (List ℕ)) → map as_numbered leaving ≡ copy_rows (leaves w) w → none ≡ [] → touched ≡ touched_more (λ r. folder_of_copy w r.1.now) leaving none → touched ≡ map folded (copies.touched_folders w)
copies_touched w leaving none touched one empty is =
    is ∙ ap (touched_more (λ (r : ℕ × Bor DuplicateFileRow). folder_of_copy w r.1.now) leaving) empty ∙ ap (map folded) (told_seen (folder_of_copy w) leaving ∙ ap (filter_map (λ (r : Numbered DuplicateFileRow). folder_of_copy w r.row)) one)

-- ---- the rows of the phases

pub remove_effect : (w : World) (leaving : List (ℕ × Bor FileRow)) (force : List (ℕ × Bor RemoveFileRow)) → map as_numbered leaving ≡ leaving_files w → map as_numbered force ≡ rows_in_force w
    → remove_files w ≡ Ok (map (λ r. removed_file w (as_numbered r)) leaving ++ map (λ r. removed_by_pattern w (as_numbered r)) force ++ prune_folders w (model.touched_folders w) ∷ [])
unfolding remove_files
remove_effect w leaving force one two =
    ap (λ (ns : List (Numbered FileRow)). Ok (map (removed_file w) ns ++ map (removed_by_pattern w) (rows_in_force w) ++ prune_folders w (model.touched_folders w) ∷ [])) (sym one)
    ∙ ap (λ (es : List RowEffect). Ok (es ++ map (removed_by_pattern w) (rows_in_force w) ++ prune_folders w (model.touched_folders w) ∷ [])) (map-over (removed_file w) as_numbered leaving)
    ∙ ap (λ (ns : List (Numbered RemoveFileRow)). Ok (map (λ r. removed_file w (as_numbered r)) leaving ++ map (removed_by_pattern w) ns ++ prune_folders w (model.touched_folders w) ∷ [])) (sym two)
    ∙ ap (λ (es : List RowEffect). Ok (map (λ r. removed_file w (as_numbered r)) leaving ++ es ++ prune_folders w (model.touched_folders w) ∷ [])) (map-over (removed_by_pattern w) as_numbered force)

pub copies_effect : (w : World) (leaving : List (ℕ × Bor DuplicateFileRow)) → map as_numbered leaving ≡ copy_rows (leaves w) w → remove_duplicate_files w ≡ Ok (map (λ r. removed_copy w (as_numbered r)) leaving ++ prune_folders w (copies.touched_folders w) ∷ [])
unfolding remove_duplicate_files
copies_effect w leaving one =
    ap (λ (ns : List (Numbered DuplicateFileRow)). Ok (map (removed_copy w) ns ++ prune_folders w (copies.touched_folders w) ∷ [])) (sym one)
    ∙ ap (λ (es : List RowEffect). Ok (es ++ prune_folders w (copies.touched_folders w) ∷ [])) (map-over (removed_copy w) as_numbered leaving)
