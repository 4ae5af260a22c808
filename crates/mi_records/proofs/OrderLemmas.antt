-- Rows by their keys: a tree has, in order, the rows in key order.
use Rattle.std.proofs.Common.{◌≡◌, ℕ, zero, suc, ◌+◌, ◌-◌, ◌<◌, ◌≤◌, List, [], ◌∷◌, map, drop, Some, None, refl, sym, ap, ◌∙◌, subst, add-one, length, arith}
use Rattle.std.specs.Prelude.{slice_get, All, Contains, option_map}
use Rattle.std.specs.List.{AllByRecursion}
use Rattle.std.proofs.lemmas.List.{length-map}
use Rattle.std.proofs.lemmas.List.Elements.{recursion_from_All, All-from_recursion}
use Rattle.std.proofs.lemmas.Option.{slice_get-map}
use Rattle.std.specs.declared.cmp.Ordering.TheVariants.{Less, Equal, Greater}
use Rattle.std.specs.Ordering.{match_ordering}
use Rattle.std.specs.Cmp.Lexicographic.{nat_list_cmp_total}
use Rattle.std.specs.FinMap.{entries, entries-insert, len-entries, len-empty}
use Rattle.std.specs.FinMap.Entries.{put, by_order}
use Rattle.std.specs.BTreeMap.{insert_entry}
use denote.Ref.{Bor}
use Rattle.mi_text.specs.Maps.{Name, name_cmp}
use Rattle.mi_schema.specs.RowsOf.{behind}
use Rattle.mi_schema.specs.TableRows.{Numbered, numbered_from, in_key_order}
use Rattle.mi_records.specs.Order.{Place, key_cmp, as_numbered, as_entry, by_keys, AreOrdered, AreRowsOf}

-- what is inserted in the tree is put among its rows
shown-insert : {R : Type 0} (k : Bor Name) (v : ℕ × Bor R) (es : List (Place R)) → map as_entry (insert_entry key_cmp es k v) ≡ put name_cmp k.now (as_numbered v) (map as_entry es)
shown-insert k v [] = refl
shown-insert k v (e ∷ es) =
    elim (key_cmp k e.0) as (λ o. map as_entry (match_ordering o ((k, v) ∷ e ∷ es) ((e.0, v) ∷ es) (e ∷ insert_entry key_cmp es k v))
    ≡ by_order o ((k.now, as_numbered v) ∷ map as_entry (e ∷ es)) ((e.0.now, as_numbered v) ∷ map as_entry es) (as_entry e ∷ put name_cmp k.now (as_numbered v) (map as_entry es))) [
      | Less ↦ refl
      | Equal ↦ refl
      | Greater ↦ ap (λ r. as_entry e ∷ r) (shown-insert k v es)
    ]

-- ---- one row more

drop-there : {X : Type 0} (xs : List X) (k : ℕ) (x : X) → slice_get xs k ≡ Some x → drop k xs ≡ x ∷ drop (suc k) xs
drop-there [] k x e = cc
drop-there (y ∷ xs) zero x e = cc
drop-there (y ∷ xs) (suc k) x e = drop-there xs k x e

drop-none : {X : Type 0} (xs : List X) (k : ℕ) → slice_get xs k ≡ None → drop k xs ≡ []
drop-none [] zero e = refl
drop-none [] (suc k) e = refl
drop-none (y ∷ xs) zero e = cc
drop-none (y ∷ xs) (suc k) e = drop-none xs k e

drop-more : {X : Type 0} (xs : List X) (k : ℕ) → drop k xs ≡ [] → drop (suc k) xs ≡ []
drop-more [] zero e = refl
drop-more [] (suc k) e = refl
drop-more (y ∷ xs) zero e = cc
drop-more (y ∷ xs) (suc k) e = drop-more xs k e

module _ {R : Type 0} (key : R → Name) (rows : List R) where
  -- no row is at the place
  pub ordered_none : (place : ℕ) (es : List (Place R)) → slice_get rows place ≡ None → AreOrdered key rows (place + 1) es → AreOrdered key rows place es
  ordered_none place es none are =
      let here : drop place rows ≡ [] = drop-none rows place none in
      let next : drop (place + 1) rows ≡ [] = ap (λ n. drop n rows) (add-one place) ∙ drop-more rows place here in
      are
      ∙ ap (λ (rs : List R). entries (by_keys (map (λ (r : Numbered R). (key r.row, r)) (numbered_from (place + 1 + 1) rs)))) next
      ∙ sym (ap (λ (rs : List R). entries (by_keys (map (λ (r : Numbered R). (key r.row, r)) (numbered_from (place + 1) rs)))) here)

  -- the row at the place
  pub ordered_with : (place : ℕ) (es : List (Place R)) (k : Bor Name) (number : ℕ) (r : Bor R) → slice_get rows place ≡ Some r.now → k.now ≡ key r.now → number ≡ place + 1
      → AreOrdered key rows (place + 1) es → AreOrdered key rows place (insert_entry key_cmp es k (number, r))
  ordered_with place es k number r there named counted are =
      shown-insert k (number, r) es
      ∙ ap (λ (n : Name). put name_cmp n (as_numbered (number, r)) (map as_entry es)) named
      ∙ ap (λ n. put name_cmp (key r.now) (record { number = n; row = r.now }) (map as_entry es)) counted
      ∙ ap (put name_cmp (key r.now) this) (are ∙ ap (λ n. entries (by_keys (map (λ (r : Numbered R). (key r.row, r)) (numbered_from n (drop (place + 1) rows))))) (add-one (place + 1)) ∙ ap (λ n. entries (by_keys (map (λ (r : Numbered R). (key r.row, r)) (numbered_from (suc (place + 1)) (drop n rows))))) (add-one place))
      ∙ sym (entries-insert nat_list_cmp_total (by_keys (map (λ (r : Numbered R). (key r.row, r)) (numbered_from (suc (place + 1)) (drop (suc place) rows)))) (key r.now) this)
      ∙ sym (ap (λ (rs : List R). entries (by_keys (map (λ (r : Numbered R). (key r.row, r)) (numbered_from (place + 1) rs)))) (drop-there rows place r.now there))
    where
      this : Numbered R
      this = record { number = place + 1; row = r.now }

-- ---- all rows

drop-all : {X : Type 0} (xs : List X) → drop (length xs) xs ≡ []
drop-all [] = refl
drop-all (x ∷ xs) = drop-all xs

of_length : {X : Type 0} (xs : List X) → length xs ≡ 0 → xs ≡ []
of_length [] e = refl
of_length (x ∷ xs) e = absurd (omega arith)

entries-none : {R : Type 0} → entries (by_keys {R = R} []) ≡ []
entries-none {R} = of_length (entries (by_keys {R = R} [])) (sym (len-entries (by_keys {R = R} [])) ∙ len-empty name_cmp (Numbered R))

pub ordered_start : {R : Type 0} (key : R → Name) (rows : List (Name × R)) (n : ℕ) (es : List (Place R)) → n ≡ length rows → es ≡ [] → AreOrdered key (behind rows) n es
ordered_start {R} key rows n es at none =
    ap (map as_entry) none
    ∙ sym (entries-none {R = R})
    ∙ sym (ap (λ (rs : List R). entries (by_keys (map (λ (r : Numbered R). (key r.row, r)) (numbered_from (n + 1) rs)))) (ap (λ k. drop k (behind rows)) (at ∙ sym (length-map rows (λ (e : Name × R). e.1))) ∙ drop-all (behind rows)))

pub ordered_below : {R : Type 0} (key : R → Name) (rows : List R) (k : ℕ) (es : List (Place R)) → 0 < k → AreOrdered key rows k es → AreOrdered key rows ((k - 1) + 1) es
ordered_below key rows k es lt are = subst (λ n. AreOrdered key rows n es) (above k lt) are
  where
    above : (n : ℕ) → 0 < n → n ≡ (n - 1) + 1
    above n h = omega arith

pub ordered_end : {R : Type 0} (key : R → Name) (rows : List R) (k : ℕ) (es : List (Place R)) → k ≤ 0 → AreOrdered key rows k es → AreOrdered key rows 0 es
ordered_end key rows k es le are = subst (λ n. AreOrdered key rows n es) (none k le) are
  where
    none : (n : ℕ) → n ≤ 0 → n ≡ 0
    none n h = omega arith

rows-shown : {R : Type 0} (es : List (Place R)) → map as_numbered (map (λ (e : Place R). e.1) es) ≡ map (λ (e : Name × Numbered R). e.1) (map as_entry es)
rows-shown [] = refl
rows-shown (e ∷ es) = ap (λ r. as_numbered e.1 ∷ r) (rows-shown es)

pub ordered_all : {R : Type 0} (key : R → Name) (rows : List R) (es : List (Place R)) (all : List (ℕ × Bor R)) → AreOrdered key rows 0 es → all ≡ map (λ (e : Place R). e.1) es → map as_numbered all ≡ in_key_order key rows
unfolding in_key_order
ordered_all {R} key rows es all are is = ap (map as_numbered) is ∙ rows-shown es ∙ ap (map (λ (e : Name × Numbered R). e.1)) are

-- the key of the row at a place
same_some : {X : Type 0} (a b : X) → Some a ≡ Some b → a ≡ b
same_some a b e = cc

at_recursion : {X : Type 0} (P : X → Type 0) (xs : List X) (k : ℕ) (x : X) → AllByRecursion P xs → slice_get xs k ≡ Some x → P x
at_recursion P [] k x all e = cc
at_recursion P (y ∷ xs) zero x all e = subst P (same_some y x e) all.0
at_recursion P (y ∷ xs) (suc k) x all e = at_recursion P xs k x all.1 e

pub key_at : {R : Type 0} (key : R → Name) (rows : List (Name × R)) (k : ℕ) (x : Name × R) → All (λ e. e.0 ≡ key e.1) rows → slice_get rows k ≡ Some x → x.0 ≡ key x.1
key_at key rows k x all e = at_recursion (λ e. e.0 ≡ key e.1) rows k x (recursion_from_All (λ e. e.0 ≡ key e.1) rows all) e

pub row_at : {R : Type 0} (rows : List (Name × R)) (k : ℕ) (x : Name × R) → slice_get rows k ≡ Some x → slice_get (behind rows) k ≡ Some x.1
row_at rows k x e = slice_get-map (λ e. e.1) rows k ∙ ap (option_map (λ e. e.1)) e

pub no_row_at : {R : Type 0} (rows : List (Name × R)) (k : ℕ) → slice_get rows k ≡ None → slice_get (behind rows) k ≡ None
no_row_at rows k e = slice_get-map (λ e. e.1) rows k ∙ ap (option_map (λ e. e.1)) e

-- ---- each is a row of the table

next_row : {R : Type 0} (r : R) (rows : List R) (x : R) → Contains rows x → Contains (r ∷ rows) x
next_row r rows x c = (suc c.0, omega (arith, c.1), c.2)

pub contains_at : {R : Type 0} (rows : List R) (k : ℕ) (x : R) → slice_get rows k ≡ Some x → Contains rows x
contains_at [] k x e = cc
contains_at (r ∷ rows) zero x e = (0, omega arith, same_some r x e)
contains_at (r ∷ rows) (suc k) x e = next_row r rows x (contains_at rows k x e)

pub insert_each : {R : Type 0} (rows : List (Name × R)) (es : List (Place R)) (k : Bor Name) (v : ℕ × Bor R) → Contains (behind rows) v.1.now → AreRowsOf rows es → AreRowsOf rows (insert_entry key_cmp es k v)
insert_each rows [] k v c all = (c, tt)
insert_each rows (e ∷ es) k v c all =
    elim (key_cmp k e.0) as (λ o. AreRowsOf rows (match_ordering o ((k, v) ∷ e ∷ es) ((e.0, v) ∷ es) (e ∷ insert_entry key_cmp es k v))) [
      | Less ↦ (c, all)
      | Equal ↦ (c, all.1)
      | Greater ↦ (all.0, insert_each rows es k v c all.1)
    ]

shown_each : {R : Type 0} (rows : List (Name × R)) (es : List (Place R)) → AreRowsOf rows es → AllByRecursion (λ (r : ℕ × Bor R). Contains (behind rows) r.1.now) (map (λ (e : Place R). e.1) es)
shown_each rows [] all = tt
shown_each rows (e ∷ es) all = (all.0, shown_each rows es all.1)

pub each_all : {R : Type 0} (rows : List (Name × R)) (es : List (Place R)) (all : List (ℕ × Bor R)) → AreRowsOf rows es → all ≡ map (λ (e : Place R). e.1) es → All (λ r. Contains (behind rows) r.1.now) all
each_all {R} rows es all are is = subst (λ (rs : List (ℕ × Bor R)). All (λ r. Contains (behind rows) r.1.now) rs) (sym is) (All-from_recursion (λ (r : ℕ × Bor R). Contains (behind rows) r.1.now) (map (λ (e : Place R). e.1) es) (shown_each rows es are))
