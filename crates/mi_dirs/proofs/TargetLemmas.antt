-- Targets that are found in an order in which each row stands behind its parent.
use Rattle.std.proofs.Common.{◌≡◌, ℕ, zero, suc, ◌+◌, ◌≤◌, ◌<◌, eqb, ltb, true, false, List, [], ◌∷◌, ◌++◌, length, get_or, Option, Some, None, refl, sym, ap, subst, ◌∙◌, arith, inl, inr, ◌⊎◌}
use Rattle.std.specs.Prelude.{slice_get, slice_index, option_map, option_and_then, unwrap_or, IfSome}
use Rattle.std.proofs.Math.ListN.{set}
use Rattle.std.proofs.lemmas.Bool.{cases_Bool, eqb-true}
use Rattle.std.proofs.lemmas.Bool.Decides.{nat_tests}
use Rattle.std.proofs.lemmas.List.{get_or_default}
use Rattle.mi_dirs.specs.declared.dir.Dir.{Dir}
use Rattle.mi_dirs.specs.declared.dir.Own.{Own}
use Rattle.mi_dirs.specs.Chains.{ends_in}
use Rattle.mi_dirs.specs.Order.{AreRows, IsOrder}
use Rattle.mi_dirs.specs.Places.{Place, parent_at, joined, target_from, target_step, target_at, bound}
use Rattle.mi_dirs.specs.Views.{own_view, place_of_dir, places_in, with_row_own, IsFolder, TargetFolders}
use Rattle.mi_dirs.proofs.ChainLemmas.{along_step}
use Rattle.mi_dirs.proofs.FilledLemmas.{Filled, slice_get-set_same, slice_get-set_other, not_eqb, same_function, parent_below, above_is}

-- what stands at a place is what was written, or what stood there
pub slice_get-set : {A : Type 0} (xs : List A) (i k : ℕ) (v w : A) → slice_get (set xs i v) k ≡ Some w → (v ≡ w) ⊎ (slice_get xs k ≡ Some w)
slice_get-set [] i k v w e = inr e
slice_get-set (x ∷ xs) zero zero v w e = inl cc
slice_get-set (x ∷ xs) zero (suc k) v w e = inr e
slice_get-set (x ∷ xs) (suc i) zero v w e = inr e
slice_get-set (x ∷ xs) (suc i) (suc k) v w e = slice_get-set xs i k v w e

pub slice_get-push : {A : Type 0} (xs : List A) (x y : A) (k : ℕ) → slice_get (xs ++ x ∷ []) k ≡ Some y → (slice_get xs k ≡ Some y) ⊎ (y ≡ x)
slice_get-push [] x y zero e = let s : x ≡ y = cc in inr (sym s)
slice_get-push [] x y (suc k) e = absurd cc
slice_get-push (z ∷ zs) x y zero e = inl e
slice_get-push (z ∷ zs) x y (suc k) e = slice_get-push zs x y k e

pub folders-none : (ts : List (Option (List ℕ))) → TargetFolders ts → TargetFolders (ts ++ None ∷ [])
folders-none ts h = λ row p e. elim (slice_get-push ts None (Some p) row e) [ inl old ↦ h row p old | inr new ↦ absurd cc ]

some_is : {A : Type 0} {x y : A} → Some x ≡ Some y → x ≡ y
some_is s = cc

lt_of : (a b : ℕ) → ltb a b ≡ true → a < b
lt_of a b e = grind (arith, nat_tests)

past_of : (a b : ℕ) → ltb a b ≡ false → b ≤ a
past_of a b e = grind (arith, nat_tests)

slice_get-set_past : {A : Type 0} (xs : List A) (i k : ℕ) (v : A) → length xs ≤ i → slice_get (set xs i v) k ≡ slice_get xs k
slice_get-set_past [] i k v le = refl
slice_get-set_past (x ∷ xs) zero k v le = absurd (omega arith)
slice_get-set_past (x ∷ xs) (suc i) zero v le = refl
slice_get-set_past (x ∷ xs) (suc i) (suc k) v le = slice_get-set_past xs i k v (omega arith)

pub folders-set : (ts : List (Option (List ℕ))) (i : ℕ) (t : Option (List ℕ)) → TargetFolders ts → IfSome t IsFolder → TargetFolders (set ts i t)
folders-set ts i t h is = λ row p e. elim (cases_Bool (eqb row i)) [
  | inl same ↦ elim (cases_Bool (ltb i (length ts))) [
    | inl lt ↦
        let here : t ≡ Some p = some_is (sym (ap (slice_get (set ts i t)) (eqb-true row i same) ∙ slice_get-set_same ts i t (lt_of i (length ts) lt)) ∙ e) in
        subst (λ (o : Option (List ℕ)). IfSome o IsFolder) here is
    | inr past ↦ h row p (sym (slice_get-set_past ts i row t (past_of i (length ts) past)) ∙ e)
  ]
  | inr other ↦ h row p (sym (slice_get-set_other ts i row t (not_eqb row i other)) ∙ e)
]

-- ---- places of directories

pub slice_get-places_in : (ds : List Dir) (ss : List (List ℕ)) (row : ℕ) → slice_get (places_in ds ss) row ≡ option_map (λ d. place_of_dir d (unwrap_or (slice_get ss row) [])) (slice_get ds row)
slice_get-places_in [] ss row = refl
slice_get-places_in (d ∷ ds) [] zero = refl
slice_get-places_in (d ∷ ds) [] (suc row) = slice_get-places_in ds [] row
slice_get-places_in (d ∷ ds) (s ∷ ss) zero = refl
slice_get-places_in (d ∷ ds) (s ∷ ss) (suc row) = slice_get-places_in ds ss row

pub length-places_in : (ds : List Dir) (ss : List (List ℕ)) → length (places_in ds ss) ≡ length ds
length-places_in [] ss = refl
length-places_in (d ∷ ds) [] = ap suc (length-places_in ds [])
length-places_in (d ∷ ds) (s ∷ ss) = ap suc (length-places_in ds ss)

pub length-with_row_own : (i : ℕ) (own : Option (Option (List ℕ))) (ps : List Place) → length (with_row_own i own ps) ≡ length ps
length-with_row_own i own [] = refl
length-with_row_own zero own (p ∷ ps) = refl
length-with_row_own (suc i) own (p ∷ ps) = ap suc (length-with_row_own i own ps)

own_same : (i : ℕ) (own : Option (Option (List ℕ))) (ps : List Place) → slice_get (with_row_own i own ps) i ≡ option_map (λ (p : Place). record p { own = own }) (slice_get ps i)
own_same i own [] = refl
own_same zero own (p ∷ ps) = refl
own_same (suc i) own (p ∷ ps) = own_same i own ps

own_other : (i k : ℕ) (own : Option (Option (List ℕ))) (ps : List Place) → (k ≡ i → ⊥) → slice_get (with_row_own i own ps) k ≡ slice_get ps k
own_other i k own [] ne = refl
own_other zero zero own (p ∷ ps) ne = absurd (ne refl)
own_other zero (suc k) own (p ∷ ps) ne = refl
own_other (suc i) zero own (p ∷ ps) ne = refl
own_other (suc i) (suc k) own (p ∷ ps) ne = own_other i k own ps (λ e. ne (ap suc e))

pub parent_at-own : (i : ℕ) (own : Option (Option (List ℕ))) (ps : List Place) (k : ℕ) → parent_at (with_row_own i own ps) k ≡ parent_at ps k
parent_at-own i own [] k = refl
parent_at-own zero own (p ∷ ps) zero = refl
parent_at-own zero own (p ∷ ps) (suc k) = refl
parent_at-own (suc i) own (p ∷ ps) zero = refl
parent_at-own (suc i) own (p ∷ ps) (suc k) = parent_at-own i own ps k

-- ---- the next row of an order

-- the parents that such an order knows are rows
pub order_rows : (ps : List Place) (n : ℕ) (order : List ℕ) → length ps ≡ n → IsOrder (parent_at ps) n order → AreRows (parent_at ps) n
order_rows ps n order size h = λ row p e.
    let lt : row < length ps = has_row ps row p e in
    let c = h.whole row (omega (arith, size)) in
    let here : slice_index order c.0 ≡ row = get_or_default order c.0 0 row c.1 ∙ c.2 in
    parent_below (parent_at ps) n order c.0 row h.ordered c.1 here (Some p) e
  where
    has_row : (ps : List Place) (row p : ℕ) → parent_at ps row ≡ Some p → row < length ps
    has_row [] row p e = absurd cc
    has_row (q ∷ qs) zero p e = omega arith
    has_row (q ∷ qs) (suc row) p e = let h = has_row qs row p e in omega arith

-- ---- targets

abbrev pub value_of : List Dir → ℕ → Own → ℕ → Option (List ℕ)
value_of rows changed own row = target_at (with_row_own changed (own_view own) (places_in rows [])) row

-- which of its own a row has
pub data Chosen (row changed : ℕ) (own here chosen : Own) : Type 0 where
  changes : row ≡ changed → chosen ≡ own → Chosen row changed own here chosen
  stays : (row ≡ changed → ⊥) → chosen ≡ here → Chosen row changed own here chosen

pub parent_here : (rows : List Dir) (row : ℕ) (dir : Dir) → slice_get rows row ≡ Some dir → parent_at (places_in rows []) row ≡ dir.parent
parent_here rows row dir is = ap (option_and_then (λ (p : Place). p.parent)) (slice_get-places_in rows [] row ∙ ap (option_map (λ (d : Dir). place_of_dir d [])) is)

place_here : (rows : List Dir) (row : ℕ) (dir : Dir) → slice_get rows row ≡ Some dir → slice_get (places_in rows []) row ≡ Some (place_of_dir dir [])
place_here rows row dir is = slice_get-places_in rows [] row ∙ ap (option_map (λ (d : Dir). place_of_dir d [])) is

place_chosen : (rows : List Dir) (changed row : ℕ) (own chosen : Own) (dir : Dir) → slice_get rows row ≡ Some dir → Chosen row changed own dir.own chosen
    → slice_get (with_row_own changed (own_view own) (places_in rows [])) row ≡ Some (record { key = dir.key; parent = dir.parent; name = dir.name; own = own_view chosen; source = [] })
place_chosen rows changed row own chosen dir is (changes e same) =
    ap (slice_get (with_row_own changed (own_view own) (places_in rows []))) e
    ∙ own_same changed (own_view own) (places_in rows [])
    ∙ ap (option_map (λ (p : Place). record p { own = own_view own })) (ap (slice_get (places_in rows [])) (sym e) ∙ place_here rows row dir is)
    ∙ ap (λ (o : Own). Some (record { key = dir.key; parent = dir.parent; name = dir.name; own = own_view o; source = [] })) (sym same)
place_chosen rows changed row own chosen dir is (stays ne same) =
    own_other changed row (own_view own) (places_in rows []) ne ∙ place_here rows row dir is
    ∙ ap (λ (o : Own). Some (record { key = dir.key; parent = dir.parent; name = dir.name; own = own_view o; source = [] })) (sym same)

pub next_target : (rows : List Dir) (changed i row : ℕ) (own chosen : Own) (dir : Dir) (order : List ℕ) (targets : List (Option (List ℕ))) (t : Option (List ℕ))
    → IsOrder (parent_at (places_in rows [])) (length rows) order → ((r : ℕ) → r < length rows → ends_in (parent_at (places_in rows [])) (bound rows) r ≡ true)
    → Filled (value_of rows changed own) order i targets → i < length order → slice_index order i ≡ row → row < length rows → slice_get rows row ≡ Some dir → Chosen row changed own dir.own chosen
    → t ≡ unwrap_or (own_view chosen) (joined dir.name (option_map (λ p. get_or targets p None) dir.parent))
    → t ≡ value_of rows changed own row
unfolding target_at
next_target rows changed i row own chosen dir order targets t order_ok ends f lt at below is choice made =
    let places = with_row_own changed (own_view own) (places_in rows []) in
    let parents : parent_at places ≡ parent_at (places_in rows []) = same_function (parent_at places) (parent_at (places_in rows [])) (parent_at-own changed (own_view own) (places_in rows [])) in
    let size : length places ≡ length rows = length-with_row_own changed (own_view own) (places_in rows []) ∙ length-places_in rows [] in
    let ending : ends_in (parent_at places) (suc (length places)) row ≡ true = ap (λ (p : ℕ → Option ℕ). ends_in p (suc (length places)) row) parents ∙ ap (λ (n : ℕ). ends_in (parent_at (places_in rows [])) (suc n) row) size ∙ ends row below in
    let here = place_chosen rows changed row own chosen dir is choice in
    let up : parent_at places row ≡ dir.parent = ap (option_and_then (λ (p : Place). p.parent)) here in
    let above : option_map (λ p. get_or targets p None) dir.parent ≡ option_map (λ p. value_of rows changed own p) dir.parent =
    above_is (parent_at (places_in rows [])) (length rows) order (value_of rows changed own) targets i row None order_ok.ordered f lt at dir.parent (ap (λ (p : ℕ → Option ℕ). p row) (sym parents) ∙ up) in
    made
    ∙ ap (λ (a : Option (Option (List ℕ))). unwrap_or (own_view chosen) (joined dir.name a)) above
    ∙ sym (along_step (parent_at places) (target_step places) None (suc (length places)) row ending
    ∙ ap (λ (o : Option Place). option_and_then (λ (p : Place). target_from p (option_map (λ p. target_at places p) (parent_at places row))) o) here
    ∙ ap (λ (o : Option ℕ). unwrap_or (own_view chosen) (joined dir.name (option_map (λ p. target_at places p) o))) up)
