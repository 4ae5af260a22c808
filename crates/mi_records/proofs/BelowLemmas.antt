-- The names that are held at a key and below it.
use Rattle.std.proofs.Common.{◌≡◌, ℕ, ◌<◌, Bool, true, false, cond, eqb, ◌&&◌, List, [], ◌∷◌, ◌++◌, map, take, length, get_or, ◌+◌, Some, None, refl, sym, ap, subst, ◌∙◌, arith}
use Rattle.std.proofs.lemmas.List.{map-append, take_more}
use Rattle.std.specs.Prelude.{filter, nat_lt, option_map, All, codes}
use Rattle.std.proofs.lemmas.Bool.Decides.{nat_tests}
use Rattle.std.specs.List.{filter_map, cons_option, AllByRecursion}
use Rattle.std.specs.FinMap.{entries, keys}
use Rattle.std.proofs.lemmas.Bool.{eqb-true, ltb-true}
use Rattle.std.proofs.lemmas.List.Elements.{All-from_recursion}
use Rattle.std.proofs.lemmas.Slice.Eq.{bytes_eq-Decides}
use Rattle.mi_text.specs.Fold.{folded}
use Rattle.mi_text.specs.Maps.{Name, Map}
use Rattle.mi_text.proofs.ByteLemmas.{both}
use Rattle.mi_base.specs.declared.entry.Entry.{Entry}
use Rattle.mi_base.specs.declared.entry.Entry.TheVariants as entry
use Rattle.mi_base.specs.declared.entry.RegValue.{RegValue}
use Rattle.mi_base.specs.declared.entry.RegValue.TheVariants as value
use Rattle.mi_base.specs.declared.entry.ValueKey.{ValueKey}
use Rattle.mi_base.specs.Limits.{fits, is_key, is_value_name}
use Rattle.mi_base.specs.Names.{digit, four_digits, key_name, value_name}
use Rattle.mi_base.specs.Spelling.{name_of}
use Rattle.mi_base.proofs.FoldLemmas.{key-folded, folded-folded, is_folded-folded}
use Rattle.mi_image.specs.Items.{Items, machine_over, AreRight}
use Rattle.mi_image.specs.Lists.{is_in_keys, value_below, values_under, key_below, keys_under}
use Rattle.mi_model.specs.Prune.{Seat, Leaf, Holder, key_place, key_seat}
use Rattle.mi_model.specs.RegistryGuards.{is_value_at}
use Rattle.mi_records.specs.Removing.{IsHeld, held_name, is_key_at}
use Rattle.mi_records.proofs.SeatLemmas.{Stands, seat_of, seat_at, place_within, each_stands, names_told}

-- ---- an entry that may be made of a place

pub value_fits : (root : ℕ) (key name : List ℕ) → root < 4 → is_key key ≡ true → is_value_name name ≡ true → fits (entry.Value (record { root = root; key = folded key; shown = name }) (value.Int 0)) ≡ true
unfolding fits
value_fits root key name r k n = let small : nat_lt root 4 ≡ true = grind (arith, nat_tests) in rw (small, key-folded key ∙ k, is_folded-folded key, n) refl

-- ---- values

picked_or : {A B : Type 0} (tell : A → B) (b : Bool) (x : A) → option_map tell (cond b (Some x) None) ≡ cond b (Some (tell x)) None
picked_or tell true x = refl
picked_or tell false x = refl

held_parts : (k : ValueKey) (v : RegValue) → fits (entry.Value k v) ≡ true → (folded k.key ≡ k.key) × IsHeld k
unfolding fits
held_parts k v fit =
    let four = both _ _ fit in
    let three = both _ _ four.0 in
    let two = both _ _ three.0 in
    let one = both _ _ two.0 in
    ((bytes_eq-Decides (folded k.key) k.key).0 two.1, record { root = ltb-true k.root 4 one.0; key = one.1; name = three.1 })

module _ (root : ℕ) (key : List ℕ) where
  value_told : (q : Name) (e : Entry) → Stands q e → option_map held_name (value_below root key e) ≡ cond (is_value_at (key_place root key) (key_seat q)) (Some q) None
  value_told q e stands = by_entry e stands ∙ ap (λ (s : Seat). cond (is_value_at (key_place root key) s) (Some q) None) (sym (seat_at q e stands))
    where
      by_value : (k : ValueKey) (v : RegValue) → Stands q (entry.Value k v) → option_map held_name (value_below root key (entry.Value k v)) ≡ cond (is_value_at (key_place root key) (Leaf (key_place k.root k.key))) (Some q) None
      by_value k v stands =
          picked_or held_name (eqb k.root root && is_in_keys (folded key) (folded key ++ 92 ∷ []) k.key) k
          ∙ ap (λ (own : List ℕ). cond (eqb k.root root && is_in_keys (folded key) (folded key ++ 92 ∷ []) own) (Some (held_name k)) None) (sym (held_parts k v stands.right).0)
          ∙ ap (λ b. cond b (Some (held_name k)) None) (sym (place_within root k.root key k.key))
          ∙ ap (λ (n : Name). cond (is_value_at (key_place root key) (Leaf (key_place k.root k.key))) (Some n) None) stands.named

      by_entry : (e : Entry) → Stands q e → option_map held_name (value_below root key e) ≡ cond (is_value_at (key_place root key) (seat_of e)) (Some q) None
      by_entry (entry.File f) stands = refl
      by_entry (entry.Folder t) stands = refl
      by_entry (entry.Value k v) stands = by_value k v stands
      by_entry (entry.Key r t) stands = refl
      by_entry (entry.Shortcut s) stands = refl
      by_entry (entry.Variable v) stands = refl
      by_entry (entry.Client c) stands = refl
      by_entry (entry.Product p) stands = refl
      by_entry (entry.System p t) stands = refl

  pub values_told : (held files : Map (List ℕ)) (items : Items) → AreRight items → map held_name (values_under (machine_over held files items) root key) ≡ filter (λ q. is_value_at (key_place root key) (key_seat q)) (keys (machine_over held files items))
  unfolding values_under
  values_told held files items right = names_told (value_below root key) held_name (λ q. is_value_at (key_place root key) (key_seat q)) (entries (machine_over held files items)) value_told (each_stands held files items right)

  -- each stands as it may
  value_held : (q : Name) (e : Entry) → Stands q e → (k : ValueKey) → value_below root key e ≡ Some k → IsHeld k
  value_held q (entry.Value k v) stands found is = by_test (eqb k.root root && is_in_keys (folded key) (folded key ++ 92 ∷ []) k.key) is
    where
      by_test : (b : Bool) → cond b (Some k) None ≡ Some found → IsHeld found
      by_test true same = subst IsHeld (let one : k ≡ found = cc in one) (held_parts k v stands.right).1
      by_test false same = cc
  value_held q (entry.File f) stands k is = cc
  value_held q (entry.Folder t) stands k is = cc
  value_held q (entry.Key r t) stands k is = cc
  value_held q (entry.Shortcut s) stands k is = cc
  value_held q (entry.Variable v) stands k is = cc
  value_held q (entry.Client c) stands k is = cc
  value_held q (entry.Product p) stands k is = cc
  value_held q (entry.System p t) stands k is = cc

  pub values_held : (held files : Map (List ℕ)) (items : Items) → AreRight items → All IsHeld (values_under (machine_over held files items) root key)
  unfolding values_under
  values_held held files items right = All-from_recursion IsHeld _ (all_picked (entries (machine_over held files items)) (each_stands held files items right))
    where
      all_picked : (es : List (Name × Entry)) → AllByRecursion (λ e. Stands e.0 e.1) es → AllByRecursion IsHeld (filter_map (λ e. value_below root key e.1) es)
      all_picked [] all = tt
      all_picked (e ∷ es) all = elim (value_below root key e.1) as (λ o. value_below root key e.1 ≡ o → AllByRecursion IsHeld (cons_option o (filter_map (λ (e : Name × Entry). value_below root key e.1) es))) [
        | None ↦ λ is. all_picked es all.1
        | Some k ↦ λ is. (value_held e.0 e.1 all.0 k is, all_picked es all.1)
      ] refl

-- ---- keys

module _ (root : ℕ) (key : List ℕ) where
  key_told : (q : Name) (e : Entry) → Stands q e → option_map (key_name root) (key_below root key e) ≡ cond (is_key_at (key_place root key) (key_seat q)) (Some q) None
  key_told q e stands = by_entry e stands ∙ ap (λ (s : Seat). cond (is_key_at (key_place root key) s) (Some q) None) (sym (seat_at q e stands))
    where
      by_root : (own : ℕ) (shown : List ℕ) (inside b : Bool) → eqb own root ≡ b → cond (b && inside) (Some (key_name root shown)) None ≡ cond (b && inside) (Some (key_name own shown)) None
      by_root own shown inside true is = ap (λ (n : ℕ). cond inside (Some (key_name n shown)) None) (sym (eqb-true own root is))
      by_root own shown inside false is = refl

      by_key : (own : ℕ) (shown : List ℕ) → Stands q (entry.Key own shown) → option_map (key_name root) (key_below root key (entry.Key own shown)) ≡ cond (is_key_at (key_place root key) (Holder (key_place own shown))) (Some q) None
      by_key own shown stands =
          picked_or (key_name root) (eqb own root && is_in_keys (folded key) (folded key ++ 92 ∷ []) (folded shown)) shown
          ∙ by_root own shown (is_in_keys (folded key) (folded key ++ 92 ∷ []) (folded shown)) (eqb own root) refl
          ∙ ap (λ b. cond b (Some (key_name own shown)) None) (sym (place_within root own key shown))
          ∙ ap (λ (n : Name). cond (is_key_at (key_place root key) (Holder (key_place own shown))) (Some n) None) stands.named

      by_entry : (e : Entry) → Stands q e → option_map (key_name root) (key_below root key e) ≡ cond (is_key_at (key_place root key) (seat_of e)) (Some q) None
      by_entry (entry.File f) stands = refl
      by_entry (entry.Folder t) stands = refl
      by_entry (entry.Value k v) stands = refl
      by_entry (entry.Key r t) stands = by_key r t stands
      by_entry (entry.Shortcut s) stands = refl
      by_entry (entry.Variable v) stands = refl
      by_entry (entry.Client c) stands = refl
      by_entry (entry.Product p) stands = refl
      by_entry (entry.System p t) stands = refl

  pub keys_told : (held files : Map (List ℕ)) (items : Items) → AreRight items → map (key_name root) (keys_under (machine_over held files items) root key) ≡ filter (λ q. is_key_at (key_place root key) (key_seat q)) (keys (machine_over held files items))
  unfolding keys_under
  keys_told held files items right = names_told (key_below root key) (key_name root) (λ q. is_key_at (key_place root key) (key_seat q)) (entries (machine_over held files items)) key_told (each_stands held files items right)

  shown_key : (own : ℕ) (shown : List ℕ) → fits (entry.Key own shown) ≡ true → is_key shown ≡ true
  unfolding fits
  shown_key own shown fit = (both _ _ fit).1

  key_held : (q : Name) (e : Entry) → Stands q e → (shown : List ℕ) → key_below root key e ≡ Some shown → is_key shown ≡ true
  key_held q (entry.Key own shown) stands found is = by_test (eqb own root && is_in_keys (folded key) (folded key ++ 92 ∷ []) (folded shown)) is
    where
      by_test : (b : Bool) → cond b (Some shown) None ≡ Some found → is_key found ≡ true
      by_test true same = ap is_key (let one : found ≡ shown = cc in one) ∙ shown_key own shown stands.right
      by_test false same = cc
  key_held q (entry.File f) stands k is = cc
  key_held q (entry.Folder t) stands k is = cc
  key_held q (entry.Value l v) stands k is = cc
  key_held q (entry.Shortcut s) stands k is = cc
  key_held q (entry.Variable v) stands k is = cc
  key_held q (entry.Client c) stands k is = cc
  key_held q (entry.Product p) stands k is = cc
  key_held q (entry.System p t) stands k is = cc

  pub keys_held : (held files : Map (List ℕ)) (items : Items) → AreRight items → All (λ shown. is_key shown ≡ true) (keys_under (machine_over held files items) root key)
  unfolding keys_under
  keys_held held files items right = All-from_recursion (λ (shown : List ℕ). is_key shown ≡ true) _ (all_picked (entries (machine_over held files items)) (each_stands held files items right))
    where
      all_picked : (es : List (Name × Entry)) → AllByRecursion (λ e. Stands e.0 e.1) es → AllByRecursion (λ (shown : List ℕ). is_key shown ≡ true) (filter_map (λ e. key_below root key e.1) es)
      all_picked [] all = tt
      all_picked (e ∷ es) all = elim (key_below root key e.1) as (λ o. key_below root key e.1 ≡ o → AllByRecursion (λ (shown : List ℕ). is_key shown ≡ true) (cons_option o (filter_map (λ (e : Name × Entry). key_below root key e.1) es))) [
        | None ↦ λ is. all_picked es all.1
        | Some k ↦ λ is. (key_held e.0 e.1 all.0 k is, all_picked es all.1)
      ] refl

-- ---- names

pub value_named_so : (root : ℕ) (key name : List ℕ) → name_of (entry.Value (record { root = root; key = folded key; shown = name }) (value.Int 0)) ≡ value_name root key name
unfolding value_name
value_named_so root key name = ap (λ (k : List ℕ). codes "v/" ++ (digit root ∷ four_digits (length k) ++ k ++ folded name)) (folded-folded key)

-- one more name
pub mapped_more : {X Y : Type 0} (f : X → Y) (xs : List X) (i : ℕ) (x : X) (old new : List Y) → i < length xs → x ≡ get_or xs i x → old ≡ map f (take i xs) → new ≡ old ++ f x ∷ [] → new ≡ map f (take (i + 1) xs)
mapped_more {X} {Y} f xs i x old new within is so_far grown =
    grown
    ∙ ap (λ (l : List Y). l ++ f x ∷ []) so_far
    ∙ sym (map-append f (take i xs) (x ∷ []))
    ∙ ap (map f) (sym (take_more xs i x within ∙ ap (λ (y : X). take i xs ++ y ∷ []) (sym is)))
