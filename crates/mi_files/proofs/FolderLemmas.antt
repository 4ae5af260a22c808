-- Rows of CreateFolder, and the places that they name.
use Rattle.std.proofs.Common.{◌≡◌, ℕ, Bool, true, false, cond, List, [], ◌∷◌, ◌++◌, map, Bor, Option, Some, None, refl, sym, ap, ◌∙◌, subst, append_assoc}
use Rattle.std.specs.Prelude.{filter, Ok, option_map}
use Rattle.std.specs.List.{filter_map, cons_option}
use Rattle.std.specs.Option.{option_to_list, option_map_or}
use Rattle.std.specs.FinMap.{keys}
use Rattle.std.proofs.lemmas.List.{append-nil, map-append}
use Rattle.mi_text.specs.Fold.{folded}
use Rattle.mi_text.specs.Lookups.{Lookups}
use Rattle.mi_text.specs.Maps.{Map}
use Rattle.mi_base.specs.Machine.{Machine}
use Rattle.mi_source.specs.Paths.{Files}
use Rattle.mi_changes.specs.Touches.{Clear}
use Rattle.mi_dirs.specs.Places.{Place, target_of}
use Rattle.mi_schema.specs.declared.package.Package.{Package}
use Rattle.mi_schema.specs.declared.typed_rows.CreateFolderRow.{CreateFolderRow}
use Rattle.mi_schema.specs.RowsOf.{rows_in}
use Rattle.mi_schema.specs.TableRows.{Numbered, in_key_order, Rows as TableRows}
use Rattle.mi_model.specs.World.{World, RowEffect}
use Rattle.mi_model.specs.Asked.{comes, leaves, dirs_of}
use Rattle.mi_model.specs.Folders.{folder_rows, folder_of_row, made_folder, create_folders, remove_folders}
use Rattle.mi_model.specs.Parents.{folder_with_parents}
use Rattle.mi_model.specs.Prune.{Path, goes, folder_seat, system_folders, kept_folders, protected_folders, prune_folders}
use Rattle.mi_steps.specs.declared.plan.Plan.{Plan}
use Rattle.mi_steps.specs.Makes.{Makes, plan_machine}
use Rattle.mi_steps.specs.Rows.{FollowsRows}
use Rattle.mi_steps.proofs.RowLemmas.{rows_started, row_more}
use Rattle.mi_records.specs.Choices.{Choices, IsAsked}
use Rattle.mi_records.specs.Order.{as_numbered}
use Rattle.mi_records.specs.Rows.{Made}
use Rattle.mi_records.proofs.PhaseLemmas.{map-over}
use Rattle.mi_files.specs.Folders.{key_of, kept_folder}

-- ---- loops over the rows that are still to come

-- what is picked so far, with that of the rest, is all of it
pub picked_more : {R T : Type 0} (pick : R → Option T) (built new : List T) (rest more : List R) (r : R) (o : Option T) (all : List T) → built ++ filter_map pick rest ≡ all → rest ≡ r ∷ more → o ≡ pick r → new ≡ built ++ option_to_list o → new ++ filter_map pick more ≡ all
picked_more {R} {T} pick built new rest more r o all so_far is found grown =
    let later = filter_map pick more in
    ap (λ (l : List T). l ++ later) grown
    ∙ append_assoc built (option_to_list o) later
    ∙ ap (λ (l : List T). built ++ l) (joined o later ∙ ap (λ (x : Option T). cons_option x later) found)
    ∙ ap (λ (rs : List R). built ++ filter_map pick rs) (sym is)
    ∙ so_far
  where
    joined : (o : Option T) (later : List T) → option_to_list o ++ later ≡ cons_option o later
    joined None later = refl
    joined (Some x) later = refl

pub picked_all : {R T : Type 0} (pick : R → Option T) (built : List T) (rest : List R) (all : List T) → built ++ filter_map pick rest ≡ all → rest ≡ [] → built ≡ all
picked_all {R} pick built rest all so_far is = sym (append-nil built) ∙ sym (ap (λ (rs : List R). built ++ filter_map pick rs) is) ∙ so_far

-- the same of what is made of each
pub mapped_more : {R T : Type 0} (f : R → T) (built new : List T) (rest more : List R) (r : R) (x : T) (all : List T) → built ++ map f rest ≡ all → rest ≡ r ∷ more → x ≡ f r → new ≡ built ++ x ∷ [] → new ++ map f more ≡ all
mapped_more {R} {T} f built new rest more r x all so_far is made grown =
    ap (λ (l : List T). l ++ map f more) grown
    ∙ append_assoc built (x ∷ []) (map f more)
    ∙ ap (λ (y : T). built ++ y ∷ map f more) made
    ∙ ap (λ (rs : List R). built ++ map f rs) (sym is)
    ∙ so_far

pub mapped_all : {R T : Type 0} (f : R → T) (built : List T) (rest : List R) (all : List T) → built ++ map f rest ≡ all → rest ≡ [] → built ≡ all
mapped_all {R} f built rest all so_far is = sym (append-nil built) ∙ sym (ap (λ (rs : List R). built ++ map f rs) is) ∙ so_far

-- what is made of what is picked
pub picked-mapped : {R S T : Type 0} (f : S → T) (pick : R → Option S) (rows : List R) → filter_map (λ r. option_map f (pick r)) rows ≡ map f (filter_map pick rows)
picked-mapped f pick [] = refl
picked-mapped f pick (r ∷ rows) = ap (cons_option (option_map f (pick r))) (picked-mapped f pick rows) ∙ by (pick r)
  where
    by : (o : Option _) → cons_option (option_map f o) (map f (filter_map pick rows)) ≡ map f (cons_option o (filter_map pick rows))
    by None = refl
    by (Some x) = refl

picked-over : {X Y T : Type 0} (pick : Y → Option T) (seen : X → Y) (xs : List X) → filter_map pick (map seen xs) ≡ filter_map (λ x. pick (seen x)) xs
picked-over pick seen [] = refl
picked-over pick seen (x ∷ xs) = ap (cons_option (pick (seen x))) (picked-over pick seen xs)

picked-alike : {X T : Type 0} (pick other : X → Option T) → ((x : X) → pick x ≡ other x) → (xs : List X) → filter_map pick xs ≡ filter_map other xs
picked-alike pick other same [] = refl
picked-alike {X} {T} pick other same (x ∷ xs) = ap (λ (o : Option T). cons_option o (filter_map pick xs)) (same x) ∙ ap (cons_option (other x)) (picked-alike pick other same xs)

-- ---- rows that pass a test

pub taken_seen : {R : Type 0} (test : R → Bool) (other : R → Bool) → ((r : R) → test r ≡ other r) → (rows : List (ℕ × Bor R)) → filter (λ (r : Numbered R). test r.row) (map as_numbered rows) ≡ map as_numbered (filter (λ r. other r.1.now) rows)
taken_seen test other same [] = refl
taken_seen {R} test other same (r ∷ rows) =
    ap (λ b. cond b (as_numbered r ∷ filter (λ (r : Numbered R). test r.row) (map as_numbered rows)) (filter (λ (r : Numbered R). test r.row) (map as_numbered rows))) (same r.1.now)
    ∙ elim (other r.1.now) as (λ b. cond b (as_numbered r ∷ filter (λ (r : Numbered R). test r.row) (map as_numbered rows)) (filter (λ (r : Numbered R). test r.row) (map as_numbered rows)) ≡ map as_numbered (cond b (r ∷ filter (λ r. other r.1.now) rows) (filter (λ r. other r.1.now) rows))) [
      | true ↦ ap (λ (ns : List (Numbered R)). as_numbered r ∷ ns) (taken_seen test other same rows)
      | false ↦ taken_seen test other same rows
    ]

module _ (L : Lookups) (c : Choices) (p : Package) (w : World) (asked : IsAsked L c p w) where
  in_order : (rows : List (ℕ × Bor CreateFolderRow)) → map as_numbered rows ≡ in_key_order key_of (rows_in p).create_folder → map as_numbered rows ≡ in_key_order key_of w.given.rows.create_folder
  in_order rows is = is ∙ ap (λ (rs : TableRows). in_key_order key_of rs.create_folder) (sym asked.rows)

  pub coming_are : (rows : List (ℕ × Bor CreateFolderRow)) → map as_numbered rows ≡ in_key_order key_of (rows_in p).create_folder → map as_numbered (filter (λ r. c.coming r.1.now.component) rows) ≡ folder_rows (comes w) w
  coming_are rows is =
      sym (taken_seen (λ (r : CreateFolderRow). comes w r.component) (λ (r : CreateFolderRow). c.coming r.component) (λ r. asked.coming r.component) rows)
      ∙ ap (λ (ns : List (Numbered CreateFolderRow)). filter (λ (r : Numbered CreateFolderRow). comes w r.row.component) ns) (in_order rows is)

  pub leaving_are : (rows : List (ℕ × Bor CreateFolderRow)) → map as_numbered rows ≡ in_key_order key_of (rows_in p).create_folder → map as_numbered (filter (λ r. c.leaving r.1.now.component) rows) ≡ folder_rows (leaves w) w
  leaving_are rows is =
      sym (taken_seen (λ (r : CreateFolderRow). leaves w r.component) (λ (r : CreateFolderRow). c.leaving r.component) (λ r. asked.leaving r.component) rows)
      ∙ ap (λ (ns : List (Numbered CreateFolderRow)). filter (λ (r : Numbered CreateFolderRow). leaves w r.row.component) ns) (in_order rows is)

  -- the folder of a row of a kept component
  pub folder_kept : (r : CreateFolderRow) → c.kept r.component ≡ true → kept_folder w r ≡ target_of c.dirs r.directory
  folder_kept r kept = ap (λ b. cond b (target_of (dirs_of w) r.directory) None) (asked.kept r.component ∙ kept) ∙ ap (λ (ds : List Place). target_of ds r.directory) asked.dirs

  pub folder_not_kept : (r : CreateFolderRow) → c.kept r.component ≡ false → kept_folder w r ≡ None
  folder_not_kept r kept = ap (λ b. cond b (target_of (dirs_of w) r.directory) None) (asked.kept r.component ∙ kept)

  -- before the first row
  pub kept_none : (places : List Path) (rest : List CreateFolderRow) → rest ≡ (rows_in p).create_folder → places ++ filter_map (λ r. option_map folded (kept_folder w r)) rest ≡ places ++ map folded (kept_folders w)
  kept_none places rest is =
      ap (λ (rs : List CreateFolderRow). places ++ filter_map (λ r. option_map folded (kept_folder w r)) rs) (is ∙ ap (λ (rs : TableRows). rs.create_folder) (sym asked.rows))
      ∙ ap (λ (l : List Path). places ++ l) (picked-mapped folded (kept_folder w) w.given.rows.create_folder)

  -- what a row makes, and where it lies
  pub row_makes : (r : ℕ × Bor CreateFolderRow) (m : Machine) → made_folder w (as_numbered r) m ≡ Ok (option_map_or folder_with_parents (target_of c.dirs r.1.now.directory) [])
  row_makes r m = ap (λ (ds : List Place). Ok (option_map_or folder_with_parents (target_of ds r.1.now.directory) [])) asked.dirs

  pub rows_touch : (rows : List (ℕ × Bor CreateFolderRow)) → filter_map (λ r. option_map folded (target_of c.dirs r.1.now.directory)) rows ≡ map folded (filter_map (λ r. folder_of_row w (as_numbered r)) rows)
  rows_touch rows =
      picked-mapped folded (λ (r : ℕ × Bor CreateFolderRow). target_of c.dirs r.1.now.directory) rows
      ∙ ap (λ (ds : List Place). map folded (filter_map (λ (r : ℕ × Bor CreateFolderRow). target_of ds r.1.now.directory) rows)) (sym asked.dirs)

-- ---- phases

pub create_effect : (w : World) (rows : List (ℕ × Bor CreateFolderRow)) → map as_numbered rows ≡ folder_rows (comes w) w → create_folders w ≡ Ok (map (λ r. made_folder w (as_numbered r)) rows)
unfolding create_folders
create_effect w rows is = ap (λ (ns : List (Numbered CreateFolderRow)). Ok (map (made_folder w) ns)) (sym is) ∙ ap Ok (map-over (made_folder w) as_numbered rows)

pub remove_effect : (w : World) (rows : List (ℕ × Bor CreateFolderRow)) → map as_numbered rows ≡ folder_rows (leaves w) w → remove_folders w ≡ Ok (prune_folders w (filter_map (λ r. folder_of_row w (as_numbered r)) rows) ∷ [])
unfolding remove_folders
remove_effect w rows is =
    ap (λ (ns : List (Numbered CreateFolderRow)). Ok (prune_folders w (filter_map (folder_of_row w) ns) ∷ [])) (sym is)
    ∙ ap (λ (fs : List Path). Ok (prune_folders w fs ∷ [])) (picked-over (folder_of_row w) as_numbered rows)

-- ---- pruning

pub protected_are : (w : World) (one two three : List Path) → one ≡ folded (67 ∷ 58 ∷ 92 ∷ []) ∷ [] → two ≡ one ++ map folded (system_folders w) → three ≡ two ++ map folded (kept_folders w) → three ≡ map folded (protected_folders w)
protected_are w one two three first second third =
    third
    ∙ ap (λ (l : List Path). l ++ map folded (kept_folders w)) (second ∙ ap (λ (l : List Path). l ++ map folded (system_folders w)) first)
    ∙ ap (λ (l : List Path). folded (67 ∷ 58 ∷ 92 ∷ []) ∷ l) (sym (map-append folded (system_folders w) (kept_folders w)))

prunes : (w : World) (m : Machine) (folders : List Path) → prune_folders w folders m ≡ Ok (Clear (goes folder_seat (keys m) (map folded folders) (map folded (protected_folders w))) ∷ [])
unfolding prune_folders
prunes w m folders = refl

module _ (held : Map (List ℕ)) (files : Files) (a b : Plan) where
  pub pruned : (w : World) (folders touched protected : List Path) → touched ≡ map folded folders → protected ≡ map folded (protected_folders w)
      → Makes held files a b (Clear (goes folder_seat (keys (plan_machine held files a)) touched protected) ∷ []) → Made held files a b (prune_folders w folders)
  pruned w folders touched protected t p makes =
      let m = plan_machine held files a in
      record {
        touches = Clear (goes folder_seat (keys m) (map folded folders) (map folded (protected_folders w))) ∷ [];
        gives = prunes w m folders;
        makes = subst (λ (ps : List Path). Makes held files a b (Clear (goes folder_seat (keys m) ps (map folded (protected_folders w))) ∷ [])) t
            (subst (λ (ps : List Path). Makes held files a b (Clear (goes folder_seat (keys m) touched ps) ∷ [])) p makes);
      }

  -- a phase of one row
  pub one_made : (effect : RowEffect) → Made held files a b effect → FollowsRows files (plan_machine held files a) (plan_machine held files b) a.script b.script (effect ∷ [])
  one_made effect made = row_more files (plan_machine held files a) (plan_machine held files a) a.script a.script [] (rows_started files (plan_machine held files a) a.script) (plan_machine held files b) b.script effect made.touches made.gives made.makes
