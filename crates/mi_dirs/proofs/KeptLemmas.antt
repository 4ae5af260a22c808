-- Directories that are kept, looked up and set.
use Rattle.std.proofs.Common.{◌≡◌, ℕ, zero, suc, ◌<◌, true, false, List, [], ◌∷◌, length, map, Option, Some, None, refl, sym, ap, subst, ◌∙◌, arith, inl, inr}
use Rattle.std.specs.Prelude.{slice_get, option_map, option_and_then, unwrap_or, is_none, is_some, String}
use Rattle.std.specs.declared.alloc.Global.{Global}
use Rattle.std.specs.BTreeMap.{BTreeMap}
use Rattle.std.proofs.Math.ListN.{set, length-set}
use Rattle.mi_text.specs.Maps.{Name}
use Rattle.mi_dirs.specs.declared.dir.Dir.{Dir}
use Rattle.mi_dirs.specs.declared.dir.Own.{Own}
use Rattle.mi_dirs.specs.declared.fault.DirFault.TheVariants.{BadPath}
use Rattle.mi_dirs.specs.Chains.{ends_in}
use Rattle.mi_dirs.specs.Order.{AreRows, IsOrder}
use Rattle.mi_dirs.specs.Places.{Place, parent_at, target_at, row_of, source_of, first_row, is_named, with_own}
use Rattle.mi_dirs.specs.Faults.{path_fault, row_number}
use Rattle.mi_dirs.specs.Views.{own_view, place_of_dir, places_in, with_row_own, IsFolderOwn, TargetFolders}
use Rattle.mi_dirs.specs.Sources.{sources_in, above_in, AreAbove}
use Rattle.mi_dirs.specs.Keeps.{Keeps}
use Rattle.mi_dirs.proofs.FilledLemmas.{same_function}
use Rattle.mi_dirs.proofs.TargetLemmas.{slice_get-places_in, length-places_in, length-with_row_own, parent_at-own, slice_get-set, order_rows}
use Rattle.mi_dirs.proofs.DirLemmas.{first_row_below}
use Rattle.mi_dirs.proofs.SourceLemmas.{same_sources}
use Rattle.mi_dirs.proofs.AboveLemmas.{same_above}
use Rattle.mi_dirs.proofs.FaultLemmas.{path_fault_is, has_target, target_at-sources, with_own_at, set_own, row_of-own}

pub some_same : {A : Type 0} {x y : A} → Some x ≡ Some y → x ≡ y
some_same s = cc

pub not_none : {A : Type 0} (o : Option A) → is_none o ≡ false → is_some o ≡ true
not_none None e = absurd cc
not_none (Some x) e = refl

some_dir : (ds : List Dir) (k : ℕ) → k < length ds → is_some (slice_get ds k) ≡ true
some_dir [] k lt = absurd (omega arith)
some_dir (d ∷ ds) zero lt = refl
some_dir (d ∷ ds) (suc k) lt = some_dir ds k (omega arith)

map-set_same : {A B : Type 0} (f : A → B) (xs : List A) (i : ℕ) (v w : A) → slice_get xs i ≡ Some w → f v ≡ f w → map f (set xs i v) ≡ map f xs
map-set_same f [] i v w is same = refl
map-set_same f (x ∷ xs) zero v w is same = let here : x ≡ w = cc in ap (λ y. y ∷ map f xs) (same ∙ ap f (sym here))
map-set_same f (x ∷ xs) (suc i) v w is same = ap (λ ys. f x ∷ ys) (map-set_same f xs i v w is same)

set_parents : (rows : List Dir) (row : ℕ) (d : Dir) (own : Own) → slice_get rows row ≡ Some d → parent_at (places_in (set rows row (record d { own = own })) []) ≡ parent_at (places_in rows [])
set_parents rows row d own is =
    ap parent_at (set_own rows [] row d own is) ∙ same_function (parent_at (with_row_own row (own_view own) (places_in rows []))) (parent_at (places_in rows [])) (parent_at-own row (own_view own) (places_in rows []))

-- what is set changes no source
pub set_sources : (rows : List Dir) (folder : List ℕ) (row : ℕ) (d : Dir) (own : Own) → slice_get rows row ≡ Some d → sources_in folder (set rows row (record d { own = own })) ≡ sources_in folder rows
set_sources rows folder row d own is =
    same_sources (set rows row (record d { own = own })) rows folder (set_parents rows row d own is) (map-set_same (λ (x : Dir). x.source) rows row (record d { own = own }) d is refl)

-- nor the way up
pub set_above : (rows : List Dir) (row : ℕ) (d : Dir) (own : Own) → slice_get rows row ≡ Some d → (table : List (Option ℕ)) → AreAbove rows table → AreAbove (set rows row (record d { own = own })) table
set_above rows row d own is table all = λ r lt.
    let new = set rows row (record d { own = own }) in
    let long : length new ≡ length rows = length-set rows row (record d { own = own }) in
    let same : above_in new ≡ above_in rows = same_above new rows (set_parents rows row d own is) (map-set_same (λ (x : Dir). x.source) rows row (record d { own = own }) d is refl) long in
    all r (subst (λ (n : ℕ). r < n) long lt) ∙ ap (λ (f : ℕ → Option ℕ). Some (f r)) (sym same)

sourced : (sources : List (List ℕ)) (row : ℕ) (s : List ℕ) → slice_get sources row ≡ Some s → (o : Option Dir) → is_some o ≡ true → option_map (λ (p : Place). p.source) (option_map (λ d. place_of_dir d (unwrap_or (slice_get sources row) [])) o) ≡ Some s
sourced sources row s at None h = absurd cc
sourced sources row s at (Some d) h = ap (λ (o : Option (List ℕ)). Some (unwrap_or o [])) at

module _ (rows : List Dir) (sources : List (List ℕ)) (index : BTreeMap (String Global) ℕ) (order : List ℕ) (targets : List (Option (List ℕ))) (kept : Keeps rows sources index order targets) where
  pub row_below : (dir : Name) (row : ℕ) → row_of (places_in rows sources) dir ≡ Some row → row < length rows
  row_below dir row is = subst (λ (n : ℕ). row < n) (length-places_in rows sources) (first_row_below (is_named dir) (places_in rows sources) row is)

  pub has_a_target : (row : ℕ) → row < length rows → is_none (target_at (places_in rows sources) row) ≡ false
  has_a_target row lt = has_target (places_in rows sources) row kept.accepted (subst (λ (n : ℕ). row < n) (sym (length-places_in rows sources)) lt)

  pub source_at_row : (dir : Name) (row : ℕ) (s : List ℕ) → row_of (places_in rows sources) dir ≡ Some row → slice_get sources row ≡ Some s → source_of (places_in rows sources) dir ≡ Some s
  source_at_row dir row s is at =
      ap (λ (o : Option ℕ). option_map (λ (p : Place). p.source) (option_and_then (slice_get (places_in rows sources)) o)) is
      ∙ ap (option_map (λ (p : Place). p.source)) (slice_get-places_in rows sources row)
      ∙ sourced sources row s at (slice_get rows row) (some_dir rows row (row_below dir row is))

  pub kept_rows : AreRows (parent_at (places_in rows [])) (length rows)
  kept_rows = order_rows (places_in rows []) (length rows) order (length-places_in rows []) kept.order

  -- ---- one directory is set

  pub set_places : (dir : Name) (row : ℕ) (own : Option (List ℕ)) (set_to : Own) → row_of (places_in rows sources) dir ≡ Some row → own_view set_to ≡ Some own → with_own dir own (places_in rows sources) ≡ with_row_own row (own_view set_to) (places_in rows sources)
  set_places dir row own set_to is same = with_own_at dir own (places_in rows sources) row is ∙ ap (λ (o : Option (Option (List ℕ))). with_row_own row o (places_in rows sources)) (sym same)

  pub set_fault : (row : ℕ) (own : Own) (found : List (Option (List ℕ))) → length found ≡ length rows
      → ((r : ℕ) → r < length rows → slice_get found r ≡ Some (target_at (with_row_own row (own_view own) (places_in rows [])) r))
      → path_fault (with_row_own row (own_view own) (places_in rows sources)) ≡ option_map (λ r. BadPath (row_number r)) (first_row is_none found)
  set_fault row own found size h =
      let places = with_row_own row (own_view own) (places_in rows sources) in
      let long : length places ≡ length rows = length-with_row_own row (own_view own) (places_in rows sources) ∙ length-places_in rows sources in
      path_fault_is places found (size ∙ sym long) (λ r lt. h r (subst (λ (n : ℕ). r < n) long lt) ∙ ap (λ (t : Option (List ℕ)). Some t) (target_at-sources row (own_view own) rows sources r))

  pub kept_after : (row : ℕ) (d : Dir) (own : Own) (found : List (Option (List ℕ))) → slice_get rows row ≡ Some d → IsFolderOwn own → length found ≡ length rows
      → ((r : ℕ) → r < length rows → slice_get found r ≡ Some (target_at (with_row_own row (own_view own) (places_in rows [])) r))
      → TargetFolders found → first_row is_none found ≡ None
      → Keeps (set rows row (record d { own = own })) sources index order found
  kept_after row d own found is folder size h paths none =
      let new = set rows row (record d { own = own }) in
      let long : length new ≡ length rows = length-set rows row (record d { own = own }) in
      let places : places_in new sources ≡ with_row_own row (own_view own) (places_in rows sources) = set_own rows sources row d own is in
      let parents : parent_at (places_in new []) ≡ parent_at (places_in rows []) = set_parents rows row d own is in
      record {
        index = λ q. kept.index q ∙ sym (row_of-own row (own_view own) (places_in rows sources) q) ∙ ap (λ (ps : List Place). row_of ps q) (sym places);
        order = subst (λ (n : ℕ). IsOrder (parent_at (places_in new [])) n order) (sym long) (subst (λ (f : ℕ → Option ℕ). IsOrder f (length rows) order) (sym parents) kept.order);
        ends = λ r lt. ap (λ (f : ℕ → Option ℕ). ends_in f (suc (length new)) r) parents ∙ ap (λ (n : ℕ). ends_in (parent_at (places_in rows [])) (suc n) r) long ∙ kept.ends r (subst (λ (n : ℕ). r < n) long lt);
        folders = λ r e s. elim (slice_get-set rows row r (record d { own = own }) e s) [
          | inl here ↦ subst (λ (x : Dir). IsFolderOwn x.own) here folder
          | inr old ↦ kept.folders r e old
        ];
        paths = paths;
        size = size ∙ sym long;
        targets = λ r lt. h r (subst (λ (n : ℕ). r < n) long lt) ∙ ap (λ (t : Option (List ℕ)). Some t) (target_at-sources row (own_view own) rows sources r ∙ ap (λ (ps : List Place). target_at ps r) (sym places));
        accepted = ap path_fault places ∙ set_fault row own found size h ∙ ap (option_map (λ r. BadPath (row_number r))) none;
      }
