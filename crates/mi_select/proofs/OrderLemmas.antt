-- Rows in key order: each stands at its number, and their keys rise. And a map of names that rise.
use Rattle.std.proofs.Common.{◌≡◌, ℕ, zero, suc, ◌+◌, ◌-◌, ◌<◌, ◌≤◌, ◌&&◌, Bool, true, false, cond, T, List, [], ◌∷◌, ◌++◌, map, length, Some, refl, sym, ap, subst, ◌∙◌, arith, append_assoc}
use Rattle.std.specs.Prelude.{All, slice_get, option_map, string_bytes}
use Rattle.std.specs.List.{AllByRecursion}
use Rattle.std.specs.String.{string_eq}
use Rattle.std.specs.declared.cmp.Ordering.{Ordering}
use Rattle.std.specs.declared.cmp.Ordering.TheVariants.{Less, Equal, Greater}
use Rattle.std.specs.Ordering.{is_lt, is_eq}
use Rattle.std.specs.FinMap.{entries, from_entries, entries-insert, entries_sorted}
use Rattle.std.specs.FinMap.Entries.{put, by_order, is_sorted, below_all}
use Rattle.std.proofs.lemmas.List.{append-nil}
use Rattle.std.proofs.lemmas.List.Elements.{All-from_recursion}
use Rattle.std.proofs.lemmas.Option.{slice_get-map}
use Rattle.indexmap.specs.IndexMap.{insert_entry, insert_all}
use denote.Ref.{Bor}
use Rattle.mi_text.specs.Maps.{Name, name_cmp}
use Rattle.mi_text.proofs.MapLemmas.{names_total, names_exact, entries-from_entries}
use Rattle.mi_schema.specs.TableRows.{Numbered, numbered_from, by_key, in_key_order}
use Rattle.mi_schema.proofs.CheckLemmas.{same_is}
use Rattle.mi_records.specs.Order.{as_numbered}
use Rattle.mi_select.specs.Chosen.{IsNumberedWithin, IsChosenAt}
use Rattle.mi_select.specs.Selections.{as_named}
use Rattle.mi_select.proofs.LookLemmas.{Named}
use Rattle.mi_wishes.proofs.RowLemmas.{same_both_ways}

-- ---- rows in key order

place_within : {A : Type 0} (xs : List A) (k : ℕ) (x : A) → slice_get xs k ≡ Some x → k < length xs
place_within [] k x e = cc
place_within (y ∷ xs) zero x e = omega arith
place_within (y ∷ xs) (suc k) x e = let rest = place_within xs k x e in omega (arith, rest)

module _ {R : Type 0} (key : R → Name) (rows : List R) where
  -- what is known of a row by its key
  record IsPlaced (e : Name × Numbered R) : Type 0 where
    keyed : e.0 ≡ key e.1.row
    above : 0 < e.1.number
    there : slice_get rows (e.1.number - 1) ≡ Some e.1.row

  placed-put : (k : Name) (v : Numbered R) (es : List (Name × Numbered R)) → IsPlaced (k, v) → AllByRecursion IsPlaced es → AllByRecursion IsPlaced (put name_cmp k v es)
  placed-put k v [] here all = (here, tt)
  placed-put k v (e ∷ es) here all =
      elim (name_cmp k e.0) as (λ o. name_cmp k e.0 ≡ o → AllByRecursion IsPlaced (by_order o ((k, v) ∷ e ∷ es) ((e.0, v) ∷ es) (e ∷ put name_cmp k v es))) [
        | Less ↦ λ is. (here, all)
        | Equal ↦ λ is. (subst (λ (n : Name). IsPlaced (n, v)) (names_exact k e.0 is) here, all.1)
        | Greater ↦ λ is. (all.0, placed-put k v es here all.1)
      ] refl

  placed-entries : (es : List (Name × Numbered R)) → AllByRecursion IsPlaced es → AllByRecursion IsPlaced (entries (from_entries {R = name_cmp} es))
  placed-entries [] all = subst (AllByRecursion IsPlaced) (sym (entries-from_entries {X = Numbered R} [] tt)) tt
  placed-entries (e ∷ es) all = subst (AllByRecursion IsPlaced) (sym (entries-insert names_total (from_entries es) e.0 e.1)) (placed-put e.0 e.1 (entries (from_entries es)) all.0 (placed-entries es all.1))

  placed-numbered : (after : List R) (n : ℕ) → ((j : ℕ) → slice_get rows (j + n) ≡ slice_get after j) → AllByRecursion IsPlaced (map (λ (r : Numbered R). (key r.row, r)) (numbered_from (suc n) after))
  placed-numbered [] n at = tt
  placed-numbered (r ∷ after) n at =
      (record { keyed = refl; above = omega arith; there = ap (slice_get rows) (less n) ∙ at 0 }, placed-numbered after (suc n) (λ j. ap (slice_get rows) (shifted j n) ∙ at (suc j)))
    where
      less : (n : ℕ) → suc n - 1 ≡ 0 + n
      less n = omega arith

      shifted : (j n : ℕ) → j + suc n ≡ suc j + n
      shifted j n = omega arith

  placed : AllByRecursion IsPlaced (entries (by_key key rows))
  placed = placed-entries (map (λ (r : Numbered R). (key r.row, r)) (numbered_from 1 rows)) (placed-numbered rows 0 (λ j. ap (slice_get rows) (none j)))
    where
      none : (j : ℕ) → j + 0 ≡ j
      none j = omega arith

  -- each row in key order stands at its number
  numbered-there : (es : List (Name × Numbered R)) (ordered : List (ℕ × Bor R)) → AllByRecursion IsPlaced es → map as_numbered ordered ≡ map (λ (e : Name × Numbered R). e.1) es
      → AllByRecursion (λ (r : ℕ × Bor R). (0 < r.0) × (slice_get rows (r.0 - 1) ≡ Some r.1.now)) ordered
  numbered-there es [] all is = tt
  numbered-there [] (r ∷ ordered) all is = cc
  numbered-there (e ∷ es) (r ∷ ordered) all is =
      let one : as_numbered r ≡ e.1 = cc in
      let rest : map as_numbered ordered ≡ map (λ (e : Name × Numbered R). e.1) es = cc in
      (subst (λ (n : Numbered R). (0 < n.number) × (slice_get rows (n.number - 1) ≡ Some n.row)) (sym one) (all.0.above, all.0.there), numbered-there es ordered all.1 rest)

  module _ (ordered : List (ℕ × Bor R)) (is : map as_numbered ordered ≡ in_key_order key rows) where
    stand : AllByRecursion (λ (r : ℕ × Bor R). (0 < r.0) × (slice_get rows (r.0 - 1) ≡ Some r.1.now)) ordered
    unfolding in_key_order
    stand = numbered-there (entries (by_key key rows)) ordered placed is

    each_is : {P Q : ℕ × Bor R → Type 0} (rs : List (ℕ × Bor R)) → ((r : ℕ × Bor R) → P r → Q r) → AllByRecursion P rs → AllByRecursion Q rs
    each_is [] then all = tt
    each_is (r ∷ rs) then all = (then r all.0, each_is rs then all.1)

    pub ordered-within : (n : ℕ) → n ≡ length rows → All (IsNumberedWithin n) ordered
    ordered-within n size = All-from_recursion (IsNumberedWithin n) ordered (each_is ordered (λ r p. let lt = place_within rows (r.0 - 1) r.1.now p.1 in let above = p.0 in (above, within r.0 n (length rows) above lt size)) stand)
      where
        within : (k n m : ℕ) → 0 < k → k - 1 < m → n ≡ m → k ≤ n
        within k n m a b e = omega arith

    pub ordered-chosen : {C : Type 0} (choices : List C) (choice : R → C) → choices ≡ map choice rows → All (IsChosenAt choices choice) ordered
    ordered-chosen choices choice at = All-from_recursion (IsChosenAt choices choice) ordered (each_is ordered (λ r p. ap (λ (l : List _). slice_get l (r.0 - 1)) at ∙ slice_get-map choice rows (r.0 - 1) ∙ ap (option_map choice) p.1) stand)

    rows-shown : (rs : List (ℕ × Bor R)) → map (λ r. r.1.now) rs ≡ map (λ (n : Numbered R). n.row) (map as_numbered rs)
    rows-shown [] = refl
    rows-shown (r ∷ rs) = ap (λ (l : List R). r.1.now ∷ l) (rows-shown rs)

    pub ordered-rows : map (λ r. r.1.now) ordered ≡ map (λ (n : Numbered R). n.row) (in_key_order key rows)
    ordered-rows = rows-shown ordered ∙ ap (map (λ (n : Numbered R). n.row)) is

    rows-told : {A : Type 0} (f : R → A) (rs : List (ℕ × Bor R)) → map (λ r. f r.1.now) rs ≡ map f (map (λ (n : Numbered R). n.row) (map as_numbered rs))
    rows-told f [] = refl
    rows-told f (r ∷ rs) = ap (λ (l : List _). f r.1.now ∷ l) (rows-told f rs)

    -- what is told of each, in order
    pub ordered-told : {A : Type 0} (f : R → A) → map (λ r. f r.1.now) ordered ≡ map f (map (λ (n : Numbered R). n.row) (in_key_order key rows))
    ordered-told f = rows-told f ordered ∙ ap (λ (l : List (Numbered R)). map f (map (λ (n : Numbered R). n.row) l)) is

  -- ---- the keys rise

  below-told : {V : Type 0} (f : R → V) (x : Name) (es : List (Name × Numbered R)) → AllByRecursion IsPlaced es
      → below_all name_cmp x (map (λ (r : R). (key r, f r)) (map (λ (n : Numbered R). n.row) (map (λ (e : Name × Numbered R). e.1) es))) ≡ below_all name_cmp x es
  below-told f x [] all = refl
  below-told {V} f x (e ∷ es) all = ap (λ (n : Name). is_lt (name_cmp x n) && below_all name_cmp x rest) (sym all.0.keyed) ∙ ap (λ b. is_lt (name_cmp x e.0) && b) (below-told f x es all.1)
    where
      rest : List (Name × V)
      rest = map (λ (r : R). (key r, f r)) (map (λ (n : Numbered R). n.row) (map (λ (e : Name × Numbered R). e.1) es))

  sorted-told : {V : Type 0} (f : R → V) (es : List (Name × Numbered R)) → AllByRecursion IsPlaced es
      → is_sorted name_cmp (map (λ (r : R). (key r, f r)) (map (λ (n : Numbered R). n.row) (map (λ (e : Name × Numbered R). e.1) es))) ≡ is_sorted name_cmp es
  sorted-told f [] all = refl
  sorted-told {V} f (e ∷ es) all =
      ap (λ (n : Name). below_all name_cmp n rest && is_sorted name_cmp rest) (sym all.0.keyed)
      ∙ ap (λ b. b && is_sorted name_cmp rest) (below-told f e.0 es all.1)
      ∙ ap (λ b. below_all name_cmp e.0 es && b) (sorted-told f es all.1)
    where
      rest : List (Name × V)
      rest = map (λ (r : R). (key r, f r)) (map (λ (n : Numbered R). n.row) (map (λ (e : Name × Numbered R). e.1) es))

  pub ordered-sorted : {V : Type 0} (f : R → V) → is_sorted name_cmp (map (λ (r : R). (key r, f r)) (map (λ (n : Numbered R). n.row) (in_key_order key rows))) ≡ true
  unfolding in_key_order
  ordered-sorted f = sorted-told f (entries (by_key key rows)) placed ∙ truth (is_sorted name_cmp (entries (by_key key rows))) (entries_sorted (by_key key rows))
    where
      truth : (b : Bool) → T b → b ≡ true
      truth true p = refl
      truth false p = absurd p

below_names : {X Y : Type 0} (x : Name) (es : List (Name × X)) (fs : List (Name × Y)) → map (λ (e : Name × X). e.0) es ≡ map (λ (f : Name × Y). f.0) fs → below_all name_cmp x es ≡ below_all name_cmp x fs
below_names x [] [] is = refl
below_names x [] (f ∷ fs) is = cc
below_names x (e ∷ es) [] is = cc
below_names {X} {Y} x (e ∷ es) (f ∷ fs) is =
    let one : e.0 ≡ f.0 = cc in
    let rest : map (λ (e : Name × X). e.0) es ≡ map (λ (f : Name × Y). f.0) fs = cc in
    ap (λ (n : Name). is_lt (name_cmp x n) && below_all name_cmp x es) one ∙ ap (λ b. is_lt (name_cmp x f.0) && b) (below_names x es fs rest)

-- whether the keys rise is a matter of the keys
sorted_names : {X Y : Type 0} (es : List (Name × X)) (fs : List (Name × Y)) → map (λ (e : Name × X). e.0) es ≡ map (λ (f : Name × Y). f.0) fs → is_sorted name_cmp es ≡ is_sorted name_cmp fs
sorted_names [] [] is = refl
sorted_names [] (f ∷ fs) is = cc
sorted_names (e ∷ es) [] is = cc
sorted_names {X} {Y} (e ∷ es) (f ∷ fs) is =
    let one : e.0 ≡ f.0 = cc in
    let rest : map (λ (e : Name × X). e.0) es ≡ map (λ (f : Name × Y). f.0) fs = cc in
    ap (λ (n : Name). below_all name_cmp n es && is_sorted name_cmp es) one
    ∙ ap (λ b. b && is_sorted name_cmp es) (below_names f.0 es fs rest)
    ∙ ap (λ b. below_all name_cmp f.0 fs && b) (sorted_names es fs rest)

names_of : {R : Type 0} (key : R → Name) (rows : List R) → map (λ (e : Name × Unit {0}). e.0) (map (λ (r : R). (key r, tt)) rows) ≡ map key rows
names_of key [] = refl
names_of key (r ∷ rows) = ap (λ (l : List Name). key r ∷ l) (names_of key rows)

-- what has the names of rows in key order
pub named-sorted : {R V : Type 0} (key : R → Name) (rows : List R) (es : List (Name × V)) → map (λ (e : Name × V). e.0) es ≡ map key (map (λ (n : Numbered R). n.row) (in_key_order key rows)) → is_sorted name_cmp es ≡ true
named-sorted {R} key rows es is =
    sorted_names es (map (λ (r : R). (key r, tt)) (map (λ (n : Numbered R). n.row) (in_key_order key rows))) (is ∙ sym (names_of key (map (λ (n : Numbered R). n.row) (in_key_order key rows))))
    ∙ ordered-sorted key rows (λ (r : R). tt)

-- ---- a map of names that rise

left : (a b : Bool) → T (a && b) → T a
left true b p = tt
left false b p = p

right : (a b : Bool) → T (a && b) → T b
right true b p = p
right false b p = absurd p

not_same : (o : Ordering) → T (is_lt o) → is_eq o ≡ false
not_same Less p = refl
not_same Equal p = absurd p
not_same Greater p = refl

module _ {V : Type 0} where
  below_there : (x : Name) (done after : List (Named V)) (p : Named V) → T (below_all name_cmp x (map as_named (done ++ p ∷ after))) → T (is_lt (name_cmp x (string_bytes p.0)))
  below_there x [] after p h = left _ _ h
  below_there x (e ∷ done) after p h = below_there x done after p (right _ _ h)

  -- none of the names before it is its own
  apart : (done after : List (Named V)) (p : Named V) → T (is_sorted name_cmp (map as_named (done ++ p ∷ after))) → AllByRecursion (λ (e : Named V). string_eq p.0 e.0 ≡ false) done
  apart [] after p h = tt
  apart (e ∷ done) after p h = (
    same_is (string_bytes p.0) (string_bytes e.0) ∙ same_both_ways (string_bytes p.0) (string_bytes e.0) ∙ not_same (name_cmp (string_bytes e.0) (string_bytes p.0)) (below_there (string_bytes e.0) done after p (left _ _ h)),
    apart done after p (right _ _ h),
  )

  added : (done : List (Named V)) (p : Named V) → AllByRecursion (λ (e : Named V). string_eq p.0 e.0 ≡ false) done → insert_entry string_eq done p.0 p.1 ≡ done ++ p ∷ []
  added [] p all = refl
  added (e ∷ done) p all = ap (λ b. cond b ((e.0, p.1) ∷ done) (e ∷ insert_entry string_eq done p.0 p.1)) all.0 ∙ ap (λ (l : List (Named V)). e ∷ l) (added done p all.1)

  inserted : (done after : List (Named V)) → T (is_sorted name_cmp (map as_named (done ++ after))) → insert_all string_eq done after ≡ done ++ after
  inserted done [] h = sym (append-nil done)
  inserted done (p ∷ after) h =
      let same : (done ++ p ∷ []) ++ after ≡ done ++ p ∷ after = append_assoc done (p ∷ []) after in
      ap (λ (l : List (Named V)). insert_all string_eq l after) (added done p (apart done after p h))
      ∙ inserted (done ++ p ∷ []) after (subst (λ (l : List (Named V)). T (is_sorted name_cmp (map as_named l))) (sym same) h)
      ∙ same

  -- names that rise, inserted in turn
  pub inserted_all : (named : List (Named V)) → is_sorted name_cmp (map as_named named) ≡ true → insert_all string_eq [] named ≡ named
  inserted_all named rise = inserted [] named (subst T (sym rise) tt)
