-- A map of entries and the map that spells it, whichever way entries are spelled.
use Rattle.std.proofs.Common.{◌≡◌, ℕ, Bool, true, false, cond, ◌&&◌, T, List, [], ◌∷◌, Option, Some, None, Ok, refl, sym, ap, ◌∙◌}
use Rattle.std.specs.Prelude.{option_map, not, is_none, is_some, find, option_and_then}
use Rattle.std.specs.Ordering.{is_lt, is_eq}
use Rattle.std.specs.declared.cmp.Ordering.TheVariants.{Less, Equal, Greater}
use Rattle.std.specs.FinMap as fin
use Rattle.std.specs.FinMap.Entries.{below_all}
use Rattle.std.specs.FinMap.{get, keys, entries, is_sorted, get-entries, entries_sorted}
use Rattle.mi_text.specs.Maps.{Name, name_cmp, same_name, Map, is_among, tabulated, map_values}
use Rattle.mi_text.proofs.MapLemmas.{from_same, same_itself, same, get-tabulated, get-map_values, among-keys}
use Rattle.mi_base.specs.SpelledMaps.{is_area, spelled_at, is_bad, or_name, spelled_map}

-- what is found in a list of entries passes what each of its entries passes
pub found : {X : Type 0} → (p : Name × X → Bool) (es : List (Name × X)) (q : Name) (x : X) → find p es ≡ None → fin.find name_cmp q es ≡ Some x → p (q, x) ≡ false
found p [] q x none is = cc
found p (e ∷ es) q x none is =
    elim (p e) as (λ t. p e ≡ t → cond t (Some e) (find p es) ≡ None → p (q, x) ≡ false) [
      | true ↦ λ t h. cc
      | false ↦ λ t h.
          elim (same_name q e.0) as (λ b. same_name q e.0 ≡ b → cond b (Some e.1) (fin.find name_cmp q es) ≡ Some x → p (q, x) ≡ false) [
            | true ↦ λ b i. let n : q ≡ e.0 = from_same q e.0 b in let v : e.1 ≡ x = some_is e.1 x i in ap (λ (k : Name). p (k, x)) n ∙ ap (λ (y : _). p (e.0, y)) (sym v) ∙ t
            | false ↦ λ b i. found p es q x h i
          ] refl is
    ] refl none
  where
    some_is : {X : Type 0} (x y : X) → Some x ≡ Some y → x ≡ y
    some_is x y e = cc

not_below : {X : Type 0} → (k : Name) (es : List (Name × X)) (q : Name) → below_all name_cmp k es ≡ true → same_name q k ≡ true → fin.find name_cmp q es ≡ None
not_below k [] q below is = refl
not_below k (e ∷ es) q below is =
    elim (name_cmp k e.0) as (λ o. name_cmp k e.0 ≡ o → (is_lt o && below_all name_cmp k es) ≡ true → cond (same_name q e.0) (Some e.1) (fin.find name_cmp q es) ≡ None) [
      | Less ↦ λ o b. let apart : same_name q e.0 ≡ false = ap (λ (n : Name). is_eq (name_cmp n e.0)) (from_same q k is) ∙ ap is_eq o in rw apart (not_below k es q b is)
      | Equal ↦ λ o b. cc
      | Greater ↦ λ o b. cc
    ] refl below

-- where all that stands in a sorted list fails the test, nothing is found
pub none_found : {X : Type 0} → (p : Name × X → Bool) (es : List (Name × X)) → is_sorted name_cmp es ≡ true → ((q : Name) (x : X) → fin.find name_cmp q es ≡ Some x → p (q, x) ≡ false) → find p es ≡ None
none_found p [] sorted h = refl
none_found p (e ∷ es) sorted h =
    let here : p e ≡ false = h e.0 e.1 (ap (λ (t : Bool). cond t (Some e.1) (fin.find name_cmp e.0 es)) (same_itself e.0)) in
    let parts = both (below_all name_cmp e.0 es) (is_sorted name_cmp es) sorted in
    rw here (none_found p es parts.1 (λ q x is.
    elim (same_name q e.0) as (λ b. same_name q e.0 ≡ b → p (q, x) ≡ false) [
      | true ↦ λ b. let none = not_below e.0 es q parts.0 b in cc
      | false ↦ λ b. h q x (ap (λ (t : Bool). cond t (Some e.1) (fin.find name_cmp q es)) b ∙ is)
    ] refl))
  where
    both : (a b : Bool) → (a && b) ≡ true → (a ≡ true) × (b ≡ true)
    both true b e = (refl, e)
    both false b e = cc

true_of : (b : Bool) → T b → b ≡ true
true_of true t = refl
true_of false t = absurd t

pub none_bad : {X : Type 0} → (p : Name × X → Bool) (m : Map X) → ((q : Name) (x : X) → get m q ≡ Some x → p (q, x) ≡ false) → find p (entries m) ≡ None
none_bad p m h = none_found p (entries m) (true_of _ (entries_sorted m)) (λ q x is. h q x (get-entries m q ∙ is))

pub not_bad : {X : Type 0} → (p : Name × X → Bool) (m : Map X) (q : Name) (x : X) → find p (entries m) ≡ None → get m q ≡ Some x → p (q, x) ≡ false
not_bad p m q x none is = found p (entries m) q x none (sym (get-entries m q) ∙ is)

-- What a way of spelling entries owes: an entry that fits is read from its name and record, and what is read is spelled so.
pub record IsSpelling {E : Type 0} (name_of : E → Name) (record_of : E → List ℕ) (Fits : E → Type 0) (read : Name → List ℕ → Option E) : Type 0 where
  pub reads : (e : E) → Fits e → read (name_of e) (record_of e) ≡ Some e
  pub spells : (n : Name) (b : List ℕ) (e : E) → read n b ≡ Some e → (name_of e ≡ n) × (record_of e ≡ b) × Fits e
  pub outside : (e : E) → is_area (name_of e) ≡ false

module _ {E : Type 0} (name_of : E → Name) (record_of : E → List ℕ) (Fits : E → Type 0) (read : Name → List ℕ → Option E) (s : IsSpelling name_of record_of Fits read) where
  -- each entry stands at its own name, and fits
  abbrev OwnNames : Map E → Type 0
  OwnNames m = (q : Name) (e : E) → get m q ≡ Some e → (name_of e ≡ q) × Fits e

  pub get-records : (m : Map E) (q : Name) → get (map_values record_of m) q ≡ option_map record_of (get m q)
  get-records m q = get-map_values record_of m q

  where_held : (a : Bool) (o : Option (List ℕ)) (f : List ℕ → Option E) (b : Bool) → is_some o ≡ b → cond b (cond a None (option_and_then f o)) None ≡ cond a None (option_and_then f o)
  where_held true o f true e = refl
  where_held true o f false e = refl
  where_held false None f true e = refl
  where_held false None f false e = refl
  where_held false (Some x) f true e = refl
  where_held false (Some x) f false e = cc

  pub get-spelled : (d : Map (List ℕ)) (q : Name) → get (tabulated (spelled_at read d) (keys d)) q ≡ spelled_at read d q
  get-spelled d q = get-tabulated (spelled_at read d) (keys d) q ∙ where_held (is_area q) (get d q) (read q) (is_among q (keys d)) (among-keys d q)

  -- what a machine's map holds at a name is spelled, and is the machine's entry
  spelled_back : (m : Map E) → OwnNames m → (q : Name) (o : Option E) → get m q ≡ o → cond (is_area q) None (option_and_then (read q) (option_map record_of o)) ≡ o
  spelled_back m is q None at = elim (is_area q) as (λ b. cond b None (option_and_then (read q) (option_map record_of None)) ≡ None) [ true ↦ refl | false ↦ refl ]
  spelled_back m is q (Some e) at =
      let own = is q e at in
      let free : is_area q ≡ false = ap is_area (sym own.0) ∙ s.outside e in
      rw free (ap (λ (n : Name). read n (record_of e)) (sym own.0) ∙ s.reads e own.1)

  good : (m : Map E) → OwnNames m → (q : Name) (b : List ℕ) (o : Option E) → get m q ≡ o → option_map record_of o ≡ Some b → is_bad read (q, b) ≡ false
  good m is q b None at e = cc
  good m is q b (Some x) at e =
      let own = is q x at in
      let bytes : record_of x ≡ b = cc in
      let read : read q b ≡ Some x = ap (λ (n : Name). read n b) (sym own.0) ∙ ap (read (name_of x)) (sym bytes) ∙ s.reads x own.1 in
      ap (λ (o : Option E). not (is_area q) && is_none o) read ∙ never (not (is_area q))
    where
      never : (b : Bool) → (b && false) ≡ false
      never true = refl
      never false = refl

  -- the map of a machine spells that machine
  pub spelled_map-map_values : (m : Map E) → OwnNames m → spelled_map read (map_values record_of m) ≡ Ok m
  unfolding spelled_map
  spelled_map-map_values m is =
      let none : find (is_bad read) (entries (map_values record_of m)) ≡ None = none_bad (is_bad read) (map_values record_of m) (λ q b at. good m is q b (get m q) refl (sym (get-records m q) ∙ at)) in
      let here : tabulated (spelled_at read (map_values record_of m)) (keys (map_values record_of m)) ≡ m =
      same _ _ (λ q. get-spelled (map_values record_of m) q ∙ ap (λ (o : Option (List ℕ)). cond (is_area q) None (option_and_then (read q) o)) (get-records m q) ∙ spelled_back m is q (get m q) refl) in
      ap (λ (o : Option (Name × List ℕ)). or_name read o (tabulated (spelled_at read (map_values record_of m)) (keys (map_values record_of m)))) none ∙ ap (λ (n : Map E). Ok n) here

  -- what a map spells is a machine, and its map is the map without the rollback area
  pub record Spelled (d : Map (List ℕ)) (m : Map E) : Type 0 where
    pub entry : (q : Name) → get m q ≡ spelled_at read d q
    pub held : (q : Name) → is_area q ≡ false → get d q ≡ option_map record_of (get m q)
    pub machine : OwnNames m

  no_bad : (d : Map (List ℕ)) (m n : Map E) (o : Option (Name × List ℕ)) → or_name read o n ≡ Ok m → (o ≡ None) × (n ≡ m)
  no_bad d m n None e = (refl, cc)
  no_bad d m n (Some x) e = cc

  back : (q : Name) (a : Bool) (o : Option (List ℕ)) → a ≡ false → ((b : List ℕ) → o ≡ Some b → (not a && is_none (read q b)) ≡ false) → o ≡ option_map record_of (cond a None (option_and_then (read q) o))
  back q true o free h = cc
  back q false None free h = refl
  back q false (Some b) free h =
      elim (read q b) as (λ r. read q b ≡ r → is_none r ≡ false → Some b ≡ option_map record_of r) [
        | None ↦ λ r n. cc
        | Some x ↦ λ r n. ap (λ (y : List ℕ). Some y) (sym (s.spells q b x r).1)
      ] refl (h b refl)

  own : (q : Name) (e : E) (a : Bool) (o : Option (List ℕ)) → cond a None (option_and_then (read q) o) ≡ Some e → (name_of e ≡ q) × Fits e
  own q e true o is = cc
  own q e false None is = cc
  own q e false (Some b) is = let all = s.spells q b e is in (all.0, all.2)

  pub spelled_map-Spelled : (d : Map (List ℕ)) (m : Map E) → spelled_map read d ≡ Ok m → Spelled d m
  unfolding spelled_map
  spelled_map-Spelled d m is =
      let parts = no_bad d m _ (find (is_bad read) (entries d)) is in
      let at : (q : Name) → get m q ≡ spelled_at read d q = λ q. ap (λ (n : Map E). get n q) (sym parts.1) ∙ get-spelled d q in
      record {
        entry = at;
        held = λ q free. back q (is_area q) (get d q) free (λ b e. not_bad (is_bad read) d q b parts.0 e) ∙ ap (option_map record_of) (sym (at q));
        machine = λ q e here. own q e (is_area q) (get d q) (sym (at q) ∙ here);
      }
