-- The first row that passes a test, and lists read place by place.
use Rattle.std.proofs.Common.{◌≡◌, ℕ, zero, suc, ◌+◌, ◌≤◌, ◌<◌, Bool, true, false, cond, List, [], ◌∷◌, ◌++◌, length, map, take, get_or, Option, Some, None, refl, sym, ap, ◌∙◌, inl, inr}
use Rattle.std.specs.Prelude.{option_map, option_and_then, is_some, slice_get}
use Rattle.std.specs.Option.{option_or}
use Rattle.std.specs.FinMap as fin
use Rattle.std.specs.Prelude.{string_bytes, String}
use Rattle.std.specs.Borrow.{Bor}
use Rattle.std.specs.declared.alloc.Global.{Global}
use Rattle.std.specs.Ordering.{nat_cmp}
use Rattle.std.specs.Cmp.Lexicographic.{slice_cmp}
use Rattle.std.specs.BTreeMap.{BTreeMap, get_by_text}
use Rattle.std.specs.BTreeMap as tree
use Rattle.std.specs.String.{string_cmp}
use Rattle.std.proofs.lemmas.List.{take_more, length-map, map-append, length-take-le}
use Rattle.std.proofs.lemmas.Map.Text.{btree_map_updates_text, is_eq-slice_cmp}
use Rattle.std.specs.Cmp.{eq_by_cmp_equiv}
use Rattle.std.specs.Str.{bytes_eq}
use Rattle.std.proofs.lemmas.Bool.{cases_Bool}
use Rattle.mi_text.specs.Maps.{Name, name_cmp, same_name}
use Rattle.mi_text.proofs.MapLemmas.{names_total, from_same}
use Rattle.mi_dirs.specs.Places.{first_row}

abbrev here : Option ℕ
here = Some 0

pub first_row-push : {A : Type 0} (test : A → Bool) (xs : List A) (x : A) → first_row test (xs ++ x ∷ []) ≡ option_or (first_row test xs) (cond (test x) (Some (length xs)) None)
first_row-push test [] x = elim (test x) as (λ b. cond b here None ≡ option_or None (cond b here None)) [ true ↦ refl | false ↦ refl ]
first_row-push {A} test (y ∷ ys) x =
    elim (test y) as (λ b. cond b here (option_map suc (first_row test (ys ++ x ∷ []))) ≡ option_or (cond b here (option_map suc (first_row test ys))) (cond (test x) (Some (suc (length ys))) None)) [
      | true ↦ refl
      | false ↦ ap (option_map suc) (first_row-push test ys x) ∙ moved (first_row test ys) (test x)
    ]
  where
    moved : (o : Option ℕ) (b : Bool) → option_map suc (option_or o (cond b (Some (length ys)) None)) ≡ option_or (option_map suc o) (cond b (Some (suc (length ys))) None)
    moved None true = refl
    moved None false = refl
    moved (Some n) b = refl

pub first_row-map : {A B : Type 0} (test : B → Bool) (f : A → B) (xs : List A) → first_row test (map f xs) ≡ first_row (λ x. test (f x)) xs
first_row-map test f [] = refl
first_row-map test f (x ∷ xs) = ap (λ (o : Option ℕ). cond (test (f x)) here (option_map suc o)) (first_row-map test f xs)

-- the first is at this place, where none before it passes
pub first_row-at : {A : Type 0} (test : A → Bool) (xs : List A) (i : ℕ) (x : A) → first_row test (take i xs) ≡ None → slice_get xs i ≡ Some x → test x ≡ true → first_row test xs ≡ Some i
first_row-at test [] i x none at is = absurd cc
first_row-at test (y ∷ ys) zero x none at is = let s : y ≡ x = cc in let p : test y ≡ true = ap test s ∙ is in rw p refl
first_row-at test (y ∷ ys) (suc i) x none at is =
    elim (test y) as (λ b. cond b here (option_map suc (first_row test (take i ys))) ≡ None → cond b here (option_map suc (first_row test ys)) ≡ Some (suc i)) [
      | true ↦ λ e. absurd cc
      | false ↦ λ e. ap (option_map suc) (first_row-at test ys i x (unmapped (first_row test (take i ys)) e) at is)
    ] none
  where
    unmapped : (o : Option ℕ) → option_map suc o ≡ None → o ≡ None
    unmapped None e = refl
    unmapped (Some n) e = absurd cc

none_or : (o : Option ℕ) → option_or o None ≡ o
none_or None = refl
none_or (Some n) = refl

-- a key that is known already
pub known_key : (names : List Name) (key : Name) → is_some (first_row (same_name key) names) ≡ true → (q : Name) → first_row (same_name q) (names ++ key ∷ []) ≡ first_row (same_name q) names
known_key names key known q =
    first_row-push (same_name q) names key
    ∙ elim (cases_Bool (same_name q key)) [
      | inl e ↦ let is : q ≡ key = from_same q key e in stays (first_row (same_name q) names) (cond (same_name q key) (Some (length names)) None) (ap (λ (n : Name). is_some (first_row (same_name n) names)) is ∙ known)
      | inr e ↦ ap (λ (b : Bool). option_or (first_row (same_name q) names) (cond b (Some (length names)) None)) e ∙ none_or (first_row (same_name q) names)
    ]
  where
    stays : (o p : Option ℕ) → is_some o ≡ true → option_or o p ≡ o
    stays None p e = absurd cc
    stays (Some n) p e = refl

-- a new key
pub new_key : (names : List Name) (key : Name) (row : ℕ) → length names ≡ row → is_some (first_row (same_name key) names) ≡ false → (q : Name) → first_row (same_name q) (names ++ key ∷ []) ≡ cond (same_name q key) (Some row) (first_row (same_name q) names)
new_key names key row size new q =
    first_row-push (same_name q) names key
    ∙ elim (cases_Bool (same_name q key)) [
      | inl e ↦
          let is : q ≡ key = from_same q key e in
          comes (first_row (same_name q) names) (same_name q key) e (ap (λ (n : Name). is_some (first_row (same_name n) names)) is ∙ new)
      | inr e ↦ ap (λ (b : Bool). option_or (first_row (same_name q) names) (cond b (Some (length names)) None)) e ∙ none_or (first_row (same_name q) names) ∙ sym (ap (λ (b : Bool). cond b (Some row) (first_row (same_name q) names)) e)
    ]
  where
    comes : (o : Option ℕ) (b : Bool) → b ≡ true → is_some o ≡ false → option_or o (cond b (Some (length names)) None) ≡ cond b (Some row) o
    comes None true e h = ap Some size
    comes None false e h = absurd cc
    comes (Some n) b e h = absurd cc

-- the first entry of a key
pub find-first_row : {X : Type 0} (entries : List (Name × X)) (key : Name) → fin.find name_cmp key entries ≡ option_and_then (λ row. option_map (λ (e : Name × X). e.1) (slice_get entries row)) (first_row (λ e. same_name key e.0) entries)
find-first_row [] key = refl
find-first_row {X} (e ∷ es) key =
    elim (same_name key e.0) as (λ b. cond b (Some e.1) (fin.find name_cmp key es) ≡ option_and_then (λ row. option_map (λ (e : Name × X). e.1) (slice_get (e ∷ es) row)) (cond b here (option_map suc (first_row (λ e. same_name key e.0) es)))) [
      | true ↦ refl
      | false ↦ find-first_row es key ∙ later (first_row (λ e. same_name key e.0) es)
    ]
  where
    later : (o : Option ℕ) → option_and_then (λ row. option_map (λ (e : Name × X). e.1) (slice_get es row)) o ≡ option_and_then (λ row. option_map (λ (e : Name × X). e.1) (slice_get (e ∷ es) row)) (option_map suc o)
    later None = refl
    later (Some n) = refl

-- ---- an index that grows

eq_names : (q k : Name) → same_name q k ≡ bytes_eq k q
eq_names q k = (eq_by_cmp_equiv names_total).symm q k ∙ is_eq-slice_cmp k q

pub index_more : (m n : BTreeMap (String Global) ℕ) (names : List Name) (key : Name) (row : ℕ) → ((q : Name) → get_by_text m q ≡ first_row (same_name q) names) → length names ≡ row
    → is_some (get_by_text m key) ≡ false → tree.UpdatesBy string_cmp (λ s. slice_cmp nat_cmp key (string_bytes s)) m n (Some row)
    → (q : Name) → get_by_text n q ≡ first_row (same_name q) (names ++ key ∷ [])
index_more m n names key row h size new u q =
    btree_map_updates_text key m n (Some row) u q
    ∙ ap (λ (b : Bool). cond b (Some row) (get_by_text m q)) (sym (eq_names q key))
    ∙ ap (cond (same_name q key) (Some row)) (h q)
    ∙ sym (new_key names key row size (ap is_some (sym (h key)) ∙ new) q)

pub index_same : (m : BTreeMap (String Global) ℕ) (names : List Name) (key : Name) → ((q : Name) → get_by_text m q ≡ first_row (same_name q) names) → is_some (get_by_text m key) ≡ true
    → (q : Name) → get_by_text m q ≡ first_row (same_name q) (names ++ key ∷ [])
index_same m names key h known q = h q ∙ sym (known_key names key (ap is_some (sym (h key)) ∙ known) q)

pub keys_more : (keys : List (Bor (List ℕ))) (i : ℕ) (d : Bor (List ℕ)) → i < length keys → map (λ k. k.now) (take (i + 1) keys) ≡ map (λ k. k.now) (take i keys) ++ (get_or keys i d).now ∷ []
keys_more keys i d lt = ap (map (λ (k : Bor (List ℕ)). k.now)) (take_more keys i d lt) ∙ map-append (λ (k : Bor (List ℕ)). k.now) (take i keys) (get_or keys i d ∷ [])

pub keys_taken : (keys : List (Bor (List ℕ))) (i : ℕ) → i ≤ length keys → length (map (λ k. k.now) (take i keys)) ≡ i
keys_taken keys i le = length-map (take i keys) (λ (k : Bor (List ℕ)). k.now) ∙ length-take-le i keys le
