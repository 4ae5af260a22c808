-- What goes with a key, by what is held at it and below it.
use Rattle.std.proofs.Common.{◌≡◌, ℕ, Bool, true, false, cond, not, ◌&&◌, ◌||◌, List, [], ◌∷◌, ◌++◌, map, drop, length, get_or, Some, None, refl, sym, ap, ◌∙◌, append_assoc}
use Rattle.std.specs.Prelude.{filter, nat_eq}
use Rattle.std.specs.List.{starts_with, list_any, filter_map, cons_option}
use Rattle.std.specs.Ordering.{is_le, nat_cmp, ordering_then}
use Rattle.std.specs.FinMap.{entries, keys, entries_sorted}
use Rattle.std.proofs.lemmas.Bool.{eqb-true}
use Rattle.std.proofs.lemmas.List.{map-append}
use Rattle.mi_text.proofs.ByteLemmas.{both}
use Rattle.mi_text.specs.Maps.{Name, name_cmp}
use Rattle.mi_base.specs.declared.entry.Entry.{Entry}
use Rattle.mi_base.specs.Machine.{Machine}
use Rattle.mi_image.proofs.FrontLemmas.{either_test}
use Rattle.mi_image.proofs.ListLemmas.{true_of}
use Rattle.mi_image.proofs.PrefixLemmas.{starts_is, starts_append}
use Rattle.mi_model.specs.Prune.{Path, Seat, Holder, Leaf, Apart, is_on_way, key_in, key_seat}
use Rattle.mi_model.specs.RegistryGuards.{is_value_at, seat_goes_with_key, goes_with_key}
use Rattle.mi_steps.proofs.PruneLemmas.{filter_alike}
use Rattle.mi_records.proofs.SeatLemmas.{and_none, or_none}
use Rattle.mi_records.specs.Removing.{is_key_at, leaf_of, guarded_place, is_loose}

-- ---- names in order

firsts : (t : Name → Bool) (es : List (Name × Entry)) → map (λ e. e.0) (filter (λ e. t e.0) es) ≡ filter t (map (λ e. e.0) es)
firsts t [] = refl
firsts t (e ∷ es) = elim (t e.0) as (λ b. map (λ (e : Name × Entry). e.0) (cond b (e ∷ filter (λ e. t e.0) es) (filter (λ e. t e.0) es)) ≡ cond b (e.0 ∷ filter t (map (λ e. e.0) es)) (filter t (map (λ e. e.0) es))) [
  | true ↦ ap (λ (qs : List Name). e.0 ∷ qs) (firsts t es)
  | false ↦ firsts t es
]

-- names of which those that pass the one test come before those that pass the other
parted : (p r : Name → Bool) → ((x y : Name) → is_le (name_cmp x y) ≡ true → r x ≡ true → p y ≡ true → ⊥) → (m : Machine) → filter (λ q. p q || r q) (keys m) ≡ filter p (keys m) ++ filter r (keys m)
parted p r before m =
    sym (firsts (λ q. p q || r q) (entries m))
    ∙ ap (map (λ (e : Name × Entry). e.0)) (either_test p r before (entries m) (true_of _ (entries_sorted m)))
    ∙ map-append (λ (e : Name × Entry). e.0) (filter (λ e. p e.0) (entries m)) (filter (λ e. r e.0) (entries m))
    ∙ ap (λ (qs : List Name). qs ++ map (λ (e : Name × Entry). e.0) (filter (λ e. r e.0) (entries m))) (firsts p (entries m))
    ∙ ap (λ (qs : List Name). filter p (keys m) ++ qs) (firsts r (entries m))

first_of : (x y : Name) → get_or x 0 0 ≡ 118 → get_or y 0 0 ≡ 107 → is_le (name_cmp x y) ≡ true → ⊥
first_of [] y v k up = absurd cc
first_of (a ∷ x) [] v k up = absurd cc
first_of (a ∷ x) (b ∷ y) v k up =
    let clash : is_le (ordering_then (nat_cmp 118 107) (name_cmp x y)) ≡ true = ap (λ (n : ℕ). is_le (ordering_then (nat_cmp n 107) (name_cmp x y))) (sym v) ∙ ap (λ (n : ℕ). is_le (ordering_then (nat_cmp a n) (name_cmp x y))) (sym k) ∙ up in absurd cc

-- ---- what keys and values begin with

key_first : (place : Path) (q : Name) → is_key_at place (key_seat q) ≡ true → get_or q 0 0 ≡ 107
key_first place [] is = cc
key_first place (a ∷ []) is = cc
key_first place (a ∷ b ∷ []) is = cc
key_first place (a ∷ b ∷ c ∷ rest) is = by_kind (nat_eq a 107) (nat_eq a 118) (c ∷ rest ++ 92 ∷ []) (c ∷ key_in rest ++ 92 ∷ []) refl is
  where
    by_kind : (k v : Bool) (holder leaf : List ℕ) → nat_eq a 107 ≡ k → is_key_at place (cond k (Holder holder) (cond v (Leaf leaf) Apart)) ≡ true → a ≡ 107
    by_kind true v holder leaf at is = eqb-true a 107 at
    by_kind false true holder leaf at is = cc
    by_kind false false holder leaf at is = cc

value_first : (place : Path) (q : Name) → is_value_at place (key_seat q) ≡ true → get_or q 0 0 ≡ 118
value_first place [] is = cc
value_first place (a ∷ []) is = cc
value_first place (a ∷ b ∷ []) is = cc
value_first place (a ∷ b ∷ c ∷ rest) is = by_kind (nat_eq a 107) (nat_eq a 118) (c ∷ rest ++ 92 ∷ []) (c ∷ key_in rest ++ 92 ∷ []) refl is
  where
    by_kind : (k v : Bool) (holder leaf : List ℕ) → nat_eq a 118 ≡ v → is_value_at place (cond k (Holder holder) (cond v (Leaf leaf) Apart)) ≡ true → a ≡ 118
    by_kind true v holder leaf at is = cc
    by_kind false true holder leaf at is = eqb-true a 118 at
    by_kind false false holder leaf at is = cc

-- ---- tests behind tests

twice : (p r : Name → Bool) (names : List Name) → filter r (filter p names) ≡ filter (λ q. p q && r q) names
twice p r [] = refl
twice p r (n ∷ names) = elim (p n) as (λ b. filter r (cond b (n ∷ filter p names) (filter p names)) ≡ cond (b && r n) (n ∷ filter (λ q. p q && r q) names) (filter (λ q. p q && r q) names)) [
  | true ↦ ap (λ (rest : List Name). cond (r n) (n ∷ rest) rest) (twice p r names)
  | false ↦ twice p r names
]

begins_through : (l p k : Path) → starts_with nat_eq l p ≡ true → starts_with nat_eq p k ≡ true → starts_with nat_eq l k ≡ true
begins_through l p k a b =
    let l_is : l ≡ k ++ (drop (length k) p ++ drop (length p) l) = starts_is l p a ∙ ap (λ (f : Path). f ++ drop (length p) l) (starts_is p k b) ∙ append_assoc k (drop (length k) p) (drop (length p) l) in
    ap (λ (x : Path). starts_with nat_eq x k) l_is ∙ starts_append k (drop (length k) p ++ drop (length p) l)

-- what doesn't lie below a key lies below no key below it
not_through : (l p k : Path) → starts_with nat_eq l k ≡ false → starts_with nat_eq p k ≡ true → starts_with nat_eq l p ≡ false
not_through l p k other below = elim (starts_with nat_eq l p) as (λ t. starts_with nat_eq l p ≡ t → t ≡ false) [
  | true ↦ λ is. let clash : true ≡ false = sym (begins_through l p k is below) ∙ other in cc
  | false ↦ λ is. refl
] refl

-- ---- guarded values that keep keys

module _ (guarded : Name → Bool) (key : Path) where
  abbrev keeps_below : Path → List Name → Bool
  keeps_below path held = list_any (λ other. guarded other && is_value_at path (key_seat other)) held

  abbrev values_at : List Name → List Name
  values_at held = filter (λ q. is_value_at key (key_seat q)) held

  abbrev way : Path → List Name → Bool
  way path names = is_on_way (filter_map (guarded_place guarded) names) path

  kept_first : (path : Path) (q : Name) (names : List Name) (rest : Bool) → starts_with nat_eq path key ≡ true → way path names ≡ rest → (s : Seat) → key_seat q ≡ s
      → way path (cond (is_value_at key s) (q ∷ names) names) ≡ ((guarded q && is_value_at path s) || rest)
  kept_first path q names rest below so (Leaf l) is = by_leaf (starts_with nat_eq l key) refl
    where
      there : (b : Bool) → is_on_way (cons_option (cond b (Some l) None) (filter_map (guarded_place guarded) names)) path ≡ ((b && starts_with nat_eq l path) || way path names)
      there true = refl
      there false = refl

      by_leaf : (b : Bool) → starts_with nat_eq l key ≡ b → way path (cond b (q ∷ names) names) ≡ ((guarded q && starts_with nat_eq l path) || rest)
      by_leaf true at =
          ap (λ (s : Seat). is_on_way (cons_option (cond (guarded q) (leaf_of s) None) (filter_map (guarded_place guarded) names)) path) is
          ∙ there (guarded q)
          ∙ ap (λ b. (guarded q && starts_with nat_eq l path) || b) so
      by_leaf false at =
          so ∙ sym (ap (λ b. b || rest) (ap (λ b. guarded q && b) (not_through l path key at below) ∙ and_none (guarded q)))
  kept_first path q names rest below so (Holder h) is = so ∙ sym (ap (λ b. b || rest) (and_none (guarded q)))
  kept_first path q names rest below so Apart is = so ∙ sym (ap (λ b. b || rest) (and_none (guarded q)))

  -- the guarded values at a key and below it are those that keep a key below it
  kept_there : (path : Path) → starts_with nat_eq path key ≡ true → (held : List Name) → way path (values_at held) ≡ keeps_below path held
  kept_there path below [] = refl
  kept_there path below (q ∷ held) = kept_first path q (values_at held) (keeps_below path held) below (kept_there path below held) (key_seat q) refl

  -- keys that no guarded value keeps, and values that aren't guarded, are what goes
  goes_so : (held : List Name) (places : List Path) → ((holder : Path) → is_on_way places holder ≡ is_on_way (filter_map (guarded_place guarded) (filter (λ q. is_value_at key (key_seat q)) held)) holder)
      → (q : Name) → ((is_key_at key (key_seat q) && is_loose places (key_seat q)) || (is_value_at key (key_seat q) && not (guarded q))) ≡ goes_with_key guarded held key q
  unfolding goes_with_key
  goes_so held places same q = by_seat (key_seat q)
    where
      by_below : (path : Path) (b : Bool) → starts_with nat_eq path key ≡ b → ((b && not (is_on_way places path)) || false) ≡ (b && not (list_any (λ other. guarded other && is_value_at path (key_seat other)) held))
      by_below path true is = or_none (not (is_on_way places path)) ∙ ap not (same path ∙ kept_there path is held)
      by_below path false is = refl

      by_seat : (s : Seat) → ((is_key_at key s && is_loose places s) || (is_value_at key s && not (guarded q))) ≡ seat_goes_with_key guarded held key q s
      by_seat (Holder path) = by_below path (starts_with nat_eq path key) refl
      by_seat (Leaf path) = refl
      by_seat Apart = refl

  -- what is found of a machine is what goes
  pub gone_are : (m : Machine) (places : List Path) (values names loose taken : List Name)
      → values ≡ filter (λ q. is_value_at key (key_seat q)) (keys m)
      → names ≡ filter (λ q. is_key_at key (key_seat q)) (keys m)
      → ((holder : Path) → is_on_way places holder ≡ is_on_way (filter_map (guarded_place guarded) values) holder)
      → loose ≡ filter (λ q. is_loose places (key_seat q)) names
      → taken ≡ filter (λ q. not (guarded q)) values
      → loose ++ taken ≡ filter (goes_with_key guarded (keys m) key) (keys m)
  gone_are m places values names loose taken values_are names_are kept loose_are taken_are =
      let is_key = λ (q : Name). is_key_at key (key_seat q) && is_loose places (key_seat q) in
      let is_value = λ (q : Name). is_value_at key (key_seat q) && not (guarded q) in
      let keys_so : loose ≡ filter is_key (keys m) = loose_are ∙ ap (filter (λ q. is_loose places (key_seat q))) names_are ∙ twice (λ q. is_key_at key (key_seat q)) (λ q. is_loose places (key_seat q)) (keys m) in
      let values_so : taken ≡ filter is_value (keys m) = taken_are ∙ ap (filter (λ q. not (guarded q))) values_are ∙ twice (λ q. is_value_at key (key_seat q)) (λ q. not (guarded q)) (keys m) in
      ap (λ (qs : List Name). qs ++ taken) keys_so
      ∙ ap (λ (qs : List Name). filter is_key (keys m) ++ qs) values_so
      ∙ sym (parted is_key is_value (λ x y up v k. first_of x y (value_first key x (both _ _ v).0) (key_first key y (both _ _ k).0) up) m)
      ∙ filter_alike (λ q. is_key q || is_value q) (goes_with_key guarded (keys m) key) (keys m) (goes_so (keys m) places (λ holder. kept holder ∙ ap (λ (qs : List Name). is_on_way (filter_map (guarded_place guarded) qs) holder) values_are))
