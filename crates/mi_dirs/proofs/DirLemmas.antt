-- Directories that are made of rows.
use Rattle.std.proofs.Common.{◌≡◌, ℕ, zero, suc, ◌+◌, ◌<◌, Bool, true, false, cond, List, [], ◌∷◌, ◌++◌, length, map, Option, Some, None, refl, sym, ap, subst, ◌∙◌, arith, zero-add, inl, inr}
use Rattle.std.specs.Prelude.{slice_get, option_map, option_and_then, unwrap_or, IsSome}
use Rattle.std.specs.Option.{option_flatten}
use Rattle.std.proofs.lemmas.Option.{slice_get-map}
use Rattle.mi_text.specs.Maps.{Name, same_name}
use Rattle.mi_props.specs.Props.{Values}
use Rattle.mi_dirs.specs.declared.rows.DirRow.{DirRow}
use Rattle.mi_dirs.specs.declared.dir.Dir.{Dir}
use Rattle.mi_dirs.specs.declared.dir.Own.{Own}
use Rattle.mi_dirs.specs.Order.{parent_in, AreRows}
use Rattle.mi_dirs.specs.Places.{Place, parent_at, first_row}
use Rattle.mi_dirs.specs.Rows.{parent_of, own_of, row_parent, row_with, Given, place, places_from, places_of, source_at}
use Rattle.mi_dirs.specs.Views.{own_view, place_of_dir, places_in, bare, bare_dir, IsFolderOwn, OwnFolders}
use Rattle.mi_dirs.proofs.FilledLemmas.{same_function}
use Rattle.mi_dirs.proofs.TargetLemmas.{slice_get-places_in, slice_get-push}

-- lists that answer alike are the same
pub same_by_get : {A : Type 0} (xs ys : List A) → ((k : ℕ) → slice_get xs k ≡ slice_get ys k) → xs ≡ ys
same_by_get [] [] h = refl
same_by_get [] (y ∷ ys) h = let s = h 0 in absurd cc
same_by_get (x ∷ xs) [] h = let s = h 0 in absurd cc
same_by_get (x ∷ xs) (y ∷ ys) h =
    let here : Some x ≡ Some y = h zero in
    let first : x ≡ y = cc in
    let rest : xs ≡ ys = same_by_get xs ys (λ k. h (suc k)) in
    cc

pub folders-push : (ds : List Dir) (d : Dir) → OwnFolders ds → IsFolderOwn d.own → OwnFolders (ds ++ d ∷ [])
folders-push ds d h is = λ row e s. elim (slice_get-push ds d e row s) [ inl old ↦ h row e old | inr new ↦ subst (λ (x : Dir). IsFolderOwn x.own) (sym new) is ]

-- ---- the first row

pub first_row_below : {A : Type 0} (test : A → Bool) (xs : List A) (i : ℕ) → first_row test xs ≡ Some i → i < length xs
first_row_below test [] i e = absurd cc
first_row_below test (x ∷ xs) i e =
    elim (test x) as (λ b. (let here : Option ℕ = Some 0 in cond b here (option_map suc (first_row test xs))) ≡ Some i → i < suc (length xs)) [
      | true ↦ λ h. let s : 0 ≡ i = cc in omega arith
      | false ↦ λ h. later (first_row test xs) (λ j is. first_row_below test xs j is) h
    ] e
  where
    later : (o : Option ℕ) → ((j : ℕ) → o ≡ Some j → j < length xs) → option_map suc o ≡ Some i → i < suc (length xs)
    later None up h = absurd cc
    later (Some j) up h = let s : suc j ≡ i = cc in let lt = up j refl in omega arith

-- ---- places by their rows

pub slice_get-places_from : (g : Given) (n : ℕ) (rs : List DirRow) (k : ℕ) → slice_get (places_from g n rs) k ≡ option_map (place g (n + k)) (slice_get rs k)
slice_get-places_from g n [] k = refl
slice_get-places_from g n (r ∷ rs) zero = ap (λ (m : ℕ). Some (place g m r)) (let e : n ≡ n + 0 = omega arith in e)
slice_get-places_from g n (r ∷ rs) (suc k) = slice_get-places_from g (suc n) rs k ∙ ap (λ (m : ℕ). option_map (place g m) (slice_get rs k)) (let e : suc n + k ≡ n + suc k = omega arith in e)

pub length-places_from : (g : Given) (n : ℕ) (rs : List DirRow) → length (places_from g n rs) ≡ length rs
length-places_from g n [] = refl
length-places_from g n (r ∷ rs) = ap suc (length-places_from g (suc n) rs)

parents_of_place : (g : Given) (row : ℕ) (o : Option DirRow) → option_and_then (λ (p : Place). p.parent) (option_map (place g row) o) ≡ option_and_then (parent_of g.rows) o
parents_of_place g row None = refl
parents_of_place g row (Some r) = refl

pub parent_at-places_of : (g : Given) → parent_at (places_of g) ≡ row_parent g.rows
parent_at-places_of g = same_function (parent_at (places_of g)) (row_parent g.rows) (λ row.
    ap (option_and_then (λ (p : Place). p.parent)) (slice_get-places_from g 0 g.rows row)
    ∙ parents_of_place g (0 + row) (slice_get g.rows row))

flat : {A : Type 0} (f : A → Option ℕ) (o : Option A) → option_flatten (option_map f o) ≡ option_and_then f o
flat f None = refl
flat f (Some x) = refl

pub parent_in-parents : (rows : List DirRow) (parents : List (Option ℕ)) → parents ≡ map (parent_of rows) rows → parent_in parents ≡ row_parent rows
parent_in-parents rows parents all = same_function (parent_in parents) (row_parent rows) (λ row.
    ap (λ (ps : List (Option ℕ)). option_flatten (slice_get ps row)) all
    ∙ ap option_flatten (slice_get-map (parent_of rows) rows row)
    ∙ flat (parent_of rows) (slice_get rows row))

pub parents_are_rows : (rows : List DirRow) → AreRows (row_parent rows) (length rows)
parents_are_rows rows row p e = of_row (slice_get rows row) e
  where
    of_parent : (r : DirRow) (o : Option (List ℕ)) → option_and_then (λ q. cond (same_name q r.key) None (row_with rows q)) o ≡ Some p → p < length rows
    of_parent r None h = absurd cc
    of_parent r (Some q) h =
        elim (same_name q r.key) as (λ b. cond b None (row_with rows q) ≡ Some p → p < length rows) [
          | true ↦ λ h. absurd cc
          | false ↦ λ h. first_row_below (λ (s : DirRow). same_name q s.key) rows p h
        ] h

    of_row : (o : Option DirRow) → option_and_then (parent_of rows) o ≡ Some p → p < length rows
    of_row None h = absurd cc
    of_row (Some r) h = of_parent r r.parent h

pub bare_made : (rows : List DirRow) (values : Values) (remembered : List (Name × List ℕ)) (r : DirRow) (source : List ℕ) (parent : Option ℕ) (own : Own) (dir : Dir)
    → dir ≡ record { key = r.key; parent = parent; name = r.target; source = source; own = own } → parent ≡ parent_of rows r → own_view own ≡ own_of values remembered r.key → bare_dir dir ≡ bare rows values remembered r
bare_made rows values remembered r source parent own dir is up mine =
    ap bare_dir is
    ∙ ap (λ (p : Option ℕ). let q : Place = record { key = r.key; parent = p; name = r.target; own = own_view own; source = [] } in q) up
    ∙ ap (λ (o : Option (Option (List ℕ))). let q : Place = record { key = r.key; parent = parent_of rows r; name = r.target; own = o; source = [] } in q) mine

-- ---- the places of the rows are those that are given

abbrev with_source : List ℕ → Place → Place
with_source s p = record p { source = s }

one_place : (g : Given) (k : ℕ) (s : Option (List ℕ)) (d : Option Dir) (r : Option DirRow) → option_map bare_dir d ≡ option_map (bare g.rows g.values g.remembered) r → (IsSome r → s ≡ Some (source_at g.rows g.folder g.short k))
    → option_map (λ (x : Dir). place_of_dir x (unwrap_or s [])) d ≡ option_map (place g k) r
one_place g k s None None h is = refl
one_place g k s None (Some r) h is = absurd cc
one_place g k s (Some d) None h is = absurd cc
one_place g k s (Some d) (Some r) h is =
    let same : bare_dir d ≡ bare g.rows g.values g.remembered r = cc in
    ap (λ (p : Place). Some (with_source (unwrap_or s []) p)) same
    ∙ ap (λ (o : Option (List ℕ)). Some (with_source (unwrap_or o []) (bare g.rows g.values g.remembered r))) (is refl)

some_within : {A : Type 0} (xs : List A) (k : ℕ) → IsSome (slice_get xs k) → k < length xs
some_within [] k some = absurd cc
some_within (x ∷ xs) zero some = omega arith
some_within (x ∷ xs) (suc k) some = let h = some_within xs k some in omega arith

pub places_same : (g : Given) (ds : List Dir) (ss : List (List ℕ)) → map bare_dir ds ≡ map (bare g.rows g.values g.remembered) g.rows
    → ((row : ℕ) → row < length g.rows → slice_get ss row ≡ Some (source_at g.rows g.folder g.short row)) → places_in ds ss ≡ places_of g
places_same g ds ss all sources = same_by_get (places_in ds ss) (places_of g) (λ k.
    slice_get-places_in ds ss k
    ∙ one_place g k (slice_get ss k) (slice_get ds k) (slice_get g.rows k)
    (sym (slice_get-map bare_dir ds k) ∙ ap (λ (ps : List Place). slice_get ps k) all ∙ slice_get-map (bare g.rows g.values g.remembered) g.rows k)
    (λ some. sources k (some_within g.rows k some))
    ∙ sym (slice_get-places_from g 0 g.rows k ∙ ap (λ (n : ℕ). option_map (place g n) (slice_get g.rows k)) (zero-add k)))
