-- Directories that are made of the rows of a table.
use Rattle.std.proofs.Common.{◌≡◌, ℕ, suc, ◌≤◌, ◌<◌, true, cond, List, [], ◌∷◌, length, map, Option, Some, None, refl, sym, ap, subst, ◌∙◌, arith}
use Rattle.std.specs.Prelude.{slice_get, option_map, option_and_then, is_none, String, Result, Err}
use Rattle.std.specs.Option.{option_or}
use Rattle.std.specs.declared.alloc.Global.{Global}
use Rattle.std.specs.BTreeMap.{BTreeMap, get_by_text}
use Rattle.std.proofs.lemmas.Option.{slice_get-map}
use Rattle.std.proofs.lemmas.List.{length-map}
use Rattle.mi_text.specs.Maps.{Name, same_name}
use Rattle.mi_dirs.specs.declared.rows.DirRow.{DirRow}
use Rattle.mi_dirs.specs.declared.dir.Dir.{Dir}
use Rattle.mi_dirs.specs.declared.fault.DirFault.{DirFault}
use Rattle.mi_dirs.specs.declared.fault.DirFault.TheVariants.{Cycle, BadPath}
use Rattle.mi_dirs.specs.declared.fault.DirError.{DirError}
use Rattle.mi_dirs.specs.declared.fault.DirError.TheVariants as error
use Rattle.mi_dirs.specs.Chains.{ends_in}
use Rattle.mi_dirs.specs.Order.{parent_in, AreRows, IsOrder, IsFirstEndless}
use Rattle.mi_dirs.specs.Places.{Place, parent_at, target_at, first_row, is_named, row_of}
use Rattle.mi_dirs.specs.Rows.{parent_of, row_parent, row_with, source_name, source_at, Given, places_from, places_of}
use Rattle.mi_dirs.specs.Faults.{row_number, cycle_fault, path_fault, dir_fault, IsEndless}
use Rattle.mi_dirs.specs.Answers.{Answers, IfFault, IfCycle}
use Rattle.mi_dirs.specs.Views.{places_in, with_row_own, bare, bare_dir, OwnFolders, TargetFolders}
use Rattle.mi_dirs.specs.Sources.{source_names, sources_in}
use Rattle.mi_dirs.specs.Keeps.{Keeps}
use Rattle.mi_dirs.proofs.FilledLemmas.{same_function}
use Rattle.mi_dirs.proofs.TargetLemmas.{length-places_in}
use Rattle.mi_dirs.proofs.DirLemmas.{parent_in-parents, parents_are_rows, parent_at-places_of, length-places_from, places_same}
use Rattle.mi_dirs.proofs.SourceLemmas.{slice_get-sources, given_source}
use Rattle.mi_dirs.proofs.FaultLemmas.{path_fault_is, no_cycle, first_cycle, is_endless, target_at-sources, with_none_own}

-- ---- the parents of the rows, as the program has them

module _ (rows : List DirRow) (parents seen : List (Option ℕ)) (is : seen ≡ parents) (all : parents ≡ map (parent_of rows) rows) where
  pub parents_same : parent_in seen ≡ row_parent rows
  parents_same = parent_in-parents rows seen (is ∙ all)

  pub rows_same : length seen ≡ length rows
  rows_same = ap length (is ∙ all) ∙ length-map rows (parent_of rows)

  pub seen_rows : AreRows (parent_in seen) (length seen)
  seen_rows = subst (λ (n : ℕ). AreRows (parent_in seen) n) (sym rows_same) (subst (λ (f : ℕ → Option ℕ). AreRows f (length rows)) (sym parents_same) (parents_are_rows rows))

  pub row_order : (order : List ℕ) → IsOrder (parent_in seen) (length seen) order → IsOrder (row_parent rows) (length rows) order
  row_order order h = subst (λ (f : ℕ → Option ℕ). IsOrder f (length rows) order) parents_same (subst (λ (n : ℕ). IsOrder (parent_in seen) n order) rows_same h)

  pub row_ends : ((row : ℕ) → row < length seen → ends_in (parent_in seen) (suc (length seen)) row ≡ true) → (row : ℕ) → row < length rows → ends_in (row_parent rows) (suc (length rows)) row ≡ true
  row_ends h = λ row lt.
      ap (λ (f : ℕ → Option ℕ). ends_in f (suc (length rows)) row) (sym parents_same)
      ∙ ap (λ (n : ℕ). ends_in (parent_in seen) (suc n) row) (sym rows_same)
      ∙ h row (subst (λ (n : ℕ). row < n) (sym rows_same) lt)

  pub row_endless : (row : ℕ) → IsFirstEndless (parent_in seen) (length seen) row → IsFirstEndless (row_parent rows) (length rows) row
  row_endless row h = subst (λ (f : ℕ → Option ℕ). IsFirstEndless f (length rows) row) parents_same (subst (λ (n : ℕ). IsFirstEndless (parent_in seen) n row) rows_same h)

-- ---- the places that the rows define

places_size : (g : Given) → length (places_of g) ≡ length g.rows
places_size g = length-places_from g 0 g.rows

pub places_endless : (g : Given) (row : ℕ) → IsFirstEndless (row_parent g.rows) (length g.rows) row → IsFirstEndless (parent_at (places_of g)) (length (places_of g)) row
places_endless g row h = subst (λ (f : ℕ → Option ℕ). IsFirstEndless f (length (places_of g)) row) (sym (parent_at-places_of g)) (subst (λ (n : ℕ). IsFirstEndless (row_parent g.rows) n row) (sym (places_size g)) h)

pub cycle_is : (g : Given) (row : ℕ) (f : DirFault) → f ≡ Cycle (row_number row) → IsFirstEndless (row_parent g.rows) (length g.rows) row → dir_fault (places_of g) ≡ Some f
cycle_is g row f is h = ap (λ (o : Option DirFault). option_or o (path_fault (places_of g))) (first_cycle (places_of g) row (places_endless g row h)) ∙ ap (λ (x : DirFault). Some x) (sym is)

pub cycle_endless : (g : Given) (row : ℕ) (f : DirFault) → f ≡ Cycle (row_number row) → IsFirstEndless (row_parent g.rows) (length g.rows) row → IfCycle f (IsEndless (places_of g))
cycle_endless g row f is h =
    let rows : AreRows (parent_at (places_of g)) (length (places_of g)) =
    subst (λ (p : ℕ → Option ℕ). AreRows p (length (places_of g))) (sym (parent_at-places_of g)) (subst (λ (n : ℕ). AreRows (row_parent g.rows) n) (sym (places_size g)) (parents_are_rows g.rows)) in
    let endless : IsEndless (places_of g) row = is_endless (places_of g) row rows (places_endless g row h) in
    subst (λ (x : DirFault). IfCycle x (IsEndless (places_of g))) (sym is) (row, refl, endless)

pub no_cycle_in : (g : Given) → ((row : ℕ) → row < length g.rows → ends_in (row_parent g.rows) (suc (length g.rows)) row ≡ true) → cycle_fault (places_of g) ≡ None
no_cycle_in g h = no_cycle (places_of g) (λ row lt.
    ap (λ (f : ℕ → Option ℕ). ends_in f (suc (length (places_of g))) row) (parent_at-places_of g)
    ∙ ap (λ (n : ℕ). ends_in (row_parent g.rows) (suc n) row) (places_size g)
    ∙ h row (subst (λ (n : ℕ). row < n) (places_size g) lt))

-- a fault that a `?` hands on
pub fault_is : {X : Type 0} (e : DirError) (answer : Result X DirFault) (Q : DirFault → Type 0) → ((f : DirFault) → Q f → answer ≡ Err f) → IfFault {X = Unit {0}} (Err e) Q → Answers (Err e) answer
fault_is error.NoMemory answer Q h k = tt
fault_is (error.Fault f) answer Q h k = h f k

pub faults_on : (e : DirError) (P Q : DirFault → Type 0) → ((f : DirFault) → Q f → P f) → IfFault {X = Unit {0}} (Err e) Q → IfFault {X = Unit {0}} (Err e) P
faults_on error.NoMemory P Q h k = tt
faults_on (error.Fault f) P Q h k = h f k

-- ---- the directories that the program makes

bare_places : (ds : List Dir) → places_in ds [] ≡ map bare_dir ds
bare_places [] = refl
bare_places (d ∷ ds) = ap (λ (ps : List Place). bare_dir d ∷ ps) (bare_places ds)

module _ (g : Given) (ds : List Dir) (made : map bare_dir ds ≡ map (bare g.rows g.values g.remembered) g.rows) where
  pub dirs_size : length ds ≡ length g.rows
  dirs_size = sym (length-map ds bare_dir) ∙ ap length made ∙ length-map g.rows (bare g.rows g.values g.remembered)

  pub dirs_parents : parent_at (places_in ds []) ≡ row_parent g.rows
  dirs_parents = ap parent_at (bare_places ds ∙ made) ∙ same_function (parent_at (map (bare g.rows g.values g.remembered) g.rows)) (row_parent g.rows) (λ row.
      ap (option_and_then (λ (p : Place). p.parent)) (slice_get-map (bare g.rows g.values g.remembered) g.rows row) ∙ bare_parent (slice_get g.rows row))
    where
      bare_parent : (o : Option DirRow) → option_and_then (λ (p : Place). p.parent) (option_map (bare g.rows g.values g.remembered) o) ≡ option_and_then (parent_of g.rows) o
      bare_parent None = refl
      bare_parent (Some r) = refl

  pub dirs_order : (order : List ℕ) → IsOrder (row_parent g.rows) (length g.rows) order → IsOrder (parent_at (places_in ds [])) (length ds) order
  dirs_order order h = subst (λ (f : ℕ → Option ℕ). IsOrder f (length ds) order) (sym dirs_parents) (subst (λ (n : ℕ). IsOrder (row_parent g.rows) n order) (sym dirs_size) h)

  pub dirs_ends : ((row : ℕ) → row < length g.rows → ends_in (row_parent g.rows) (suc (length g.rows)) row ≡ true) → (row : ℕ) → row < length ds → ends_in (parent_at (places_in ds [])) (suc (length ds)) row ≡ true
  dirs_ends h = λ row lt.
      ap (λ (f : ℕ → Option ℕ). ends_in f (suc (length ds)) row) dirs_parents
      ∙ ap (λ (n : ℕ). ends_in (row_parent g.rows) (suc n) row) dirs_size
      ∙ h row (subst (λ (n : ℕ). row < n) dirs_size lt)

  sources_given : (folder : List ℕ) → folder ≡ g.folder → source_names ds ≡ map (source_name g.short) g.rows → (row : ℕ) → row < length g.rows → slice_get (sources_in folder ds) row ≡ Some (source_at g.rows g.folder g.short row)
  sources_given folder is names = λ row lt.
      slice_get-sources ds folder row (subst (λ (n : ℕ). row < n) (sym dirs_size) lt)
      ∙ ap (λ (s : List ℕ). Some s) (given_source g.rows ds folder g.short row dirs_parents names dirs_size ∙ ap (λ (f : List ℕ). source_at g.rows f g.short row) is)

  pub places_made : (folder : List ℕ) → folder ≡ g.folder → source_names ds ≡ map (source_name g.short) g.rows → places_in ds (sources_in folder ds) ≡ places_of g
  places_made folder is names = places_same g ds (sources_in folder ds) made (sources_given folder is names)

keys_same : (g : Given) (q : Name) (n : ℕ) (rs : List DirRow) → first_row (λ (r : DirRow). same_name q r.key) rs ≡ first_row (is_named q) (places_from g n rs)
keys_same g q n [] = refl
keys_same g q n (r ∷ rs) = ap (λ (o : Option ℕ). let first : Option ℕ = Some 0 in cond (same_name q r.key) first (option_map suc o)) (keys_same g q (suc n) rs)

-- the targets as they are found, with no row changed
found_targets : (ds : List Dir) (ss : List (List ℕ)) (n : ℕ) (found : List (Option (List ℕ))) → n ≡ length ds
    → ((row : ℕ) → row < length ds → slice_get found row ≡ Some (target_at (with_row_own n None (places_in ds [])) row))
    → (row : ℕ) → row < length ds → slice_get found row ≡ Some (target_at (places_in ds ss) row)
found_targets ds ss n found is h row lt =
    let past : length (places_in ds ss) ≤ n = omega (arith, length-places_in ds ss) in
    h row lt ∙ ap (λ (t : Option (List ℕ)). Some t) (target_at-sources n None ds ss row ∙ ap (λ (ps : List Place). target_at ps row) (with_none_own None (places_in ds ss) n past))

found_fault : (ds : List Dir) (ss : List (List ℕ)) (found : List (Option (List ℕ))) → length found ≡ length ds → ((row : ℕ) → row < length ds → slice_get found row ≡ Some (target_at (places_in ds ss) row))
    → path_fault (places_in ds ss) ≡ option_map (λ row. BadPath (row_number row)) (first_row is_none found)
found_fault ds ss found size h = path_fault_is (places_in ds ss) found (size ∙ sym (length-places_in ds ss)) (λ row lt. h row (subst (λ (n : ℕ). row < n) (length-places_in ds ss) lt))

-- the same of directories that are seen under another name
pub targets_in : (seen ds : List Dir) (ss : List (List ℕ)) (n : ℕ) (found : List (Option (List ℕ))) → seen ≡ ds → n ≡ length ds → length found ≡ length seen
    → ((row : ℕ) → row < length seen → slice_get found row ≡ Some (target_at (with_row_own n None (places_in seen [])) row))
    → (length found ≡ length ds) × ((row : ℕ) → row < length ds → slice_get found row ≡ Some (target_at (places_in ds ss) row))
targets_in seen ds ss n found same is size h =
    (size ∙ ap length same, found_targets ds ss n found is (λ row lt. h row (subst (λ (k : ℕ). row < k) (sym (ap length same)) lt) ∙ ap (λ (rs : List Dir). Some (target_at (with_row_own n None (places_in rs [])) row)) same))

-- where each chain ends the first fault is the first target that is refused
pub fault_found : (g : Given) (ds : List Dir) (ss : List (List ℕ)) (found : List (Option (List ℕ))) → ((row : ℕ) → row < length g.rows → ends_in (row_parent g.rows) (suc (length g.rows)) row ≡ true) → places_in ds ss ≡ places_of g
    → length found ≡ length ds → ((row : ℕ) → row < length ds → slice_get found row ≡ Some (target_at (places_in ds ss) row))
    → dir_fault (places_of g) ≡ option_map (λ row. BadPath (row_number row)) (first_row is_none found)
fault_found g ds ss found ends places size h =
    ap (λ (o : Option DirFault). option_or o (path_fault (places_of g))) (no_cycle_in g ends) ∙ ap path_fault (sym places) ∙ found_fault ds ss found size h

pub keeps : (g : Given) (ds : List Dir) (ss : List (List ℕ)) (index : BTreeMap (String Global) ℕ) (order : List ℕ) (found : List (Option (List ℕ)))
    → (made : map bare_dir ds ≡ map (bare g.rows g.values g.remembered) g.rows) → places_in ds ss ≡ places_of g → ((q : Name) → get_by_text index q ≡ row_with g.rows q)
    → IsOrder (row_parent g.rows) (length g.rows) order → ((row : ℕ) → row < length g.rows → ends_in (row_parent g.rows) (suc (length g.rows)) row ≡ true) → OwnFolders ds → TargetFolders found
    → length found ≡ length ds → ((row : ℕ) → row < length ds → slice_get found row ≡ Some (target_at (places_in ds ss) row)) → first_row is_none found ≡ None
    → Keeps ds ss index order found
keeps g ds ss index order found made places by_key in_order ends folders paths found_size h none = record {
  index = λ q. by_key q ∙ keys_same g q 0 g.rows ∙ ap (λ (ps : List Place). row_of ps q) (sym places);
  order = dirs_order g ds made order in_order;
  ends = dirs_ends g ds made ends;
  folders = folders;
  paths = paths;
  size = found_size;
  targets = h;
  accepted = found_fault ds ss found found_size h ∙ ap (option_map (λ row. BadPath (row_number row))) none;
}
