-- The variables of a machine in tables by their folded names.
use Rattle.std.proofs.Common.{◌≡◌, ℕ, ◌+◌, ◌<◌, Bool, true, false, cond, T, ◌&&◌, ◌||◌, List, [], ◌∷◌, ◌++◌, length, map, take, get_or, Option, Some, None, refl, sym, ap, subst, ◌∙◌}
use Rattle.std.specs.Prelude.{nat_eq, filter, is_some, option_map, unwrap_or}
use Rattle.std.specs.Borrow.{Bor}
use Rattle.std.specs.Option.{option_or}
use Rattle.std.specs.List.{AllByRecursion, cons_option, filter_map, starts_with}
use Rattle.std.specs.List.Sorted.{IsStrictlySortedBy}
use Rattle.std.specs.Map.{keys_of, lookup}
use Rattle.std.specs.Ordering.{is_eq, is_lt, ordering_then}
use Rattle.std.specs.declared.cmp.Ordering.{Ordering}
use Rattle.std.specs.declared.cmp.Ordering.TheVariants.{Less, Equal, Greater}
use Rattle.std.specs.Cmp.{tied_itself, nat_cmp_total}
use Rattle.std.specs.FinMap.{get, keys, entries, entries_sorted, is_sorted}
use Rattle.std.specs.FinMap.Entries.{below_all}
use Rattle.std.proofs.lemmas.List.{take_more, map-append, append-nil}
use Rattle.std.proofs.lemmas.List.Kept.{IsStrictlySortedBy-filter}
use Rattle.mi_text.specs.Maps.{Name, Map, name_cmp, same_name, is_among}
use Rattle.mi_text.specs.Fold.{folded}
use Rattle.mi_text.specs.Folded.{KeysRise, value_at_fold}
use Rattle.mi_text.proofs.MapLemmas.{from_same, among-keys}
use Rattle.mi_base.specs.declared.entry.Variable.{Variable}
use Rattle.mi_base.specs.declared.entry.Entry.{Entry}
use Rattle.mi_base.specs.declared.entry.Entry.TheVariants as entry
use Rattle.mi_base.specs.Machine.{as_variable, variable_at}
use Rattle.mi_base.specs.Names.{variable_name}
use Rattle.mi_image.specs.declared.item.Item.{Item}
use Rattle.mi_image.specs.declared.item.Item.TheVariants.{Head, Whole}
use Rattle.mi_image.specs.Items.{Items, machine_over, AreRight, MayStand}
use Rattle.mi_image.specs.Lookups.{whole_of}
use Rattle.mi_image.proofs.LookupLemmas.{over_whole}
use Rattle.mi_world.specs.Variables.{front, pair_at, variable_at_name, variable_pair}

-- ---- lists

filter_all : {X : Type 0} (p : X → Bool) (xs : List X) → AllByRecursion (λ x. p x ≡ true) (filter p xs)
filter_all p [] = tt
filter_all p (x ∷ xs) = elim (p x) as (λ b. p x ≡ b → AllByRecursion (λ y. p y ≡ true) (cond b (x ∷ filter p xs) (filter p xs))) [ true ↦ λ e. (e, filter_all p xs) | false ↦ λ e. filter_all p xs ] refl

each : {X : Type 0} (P Q : X → Type 0) → ((x : X) → P x → Q x) → (xs : List X) → AllByRecursion P xs → AllByRecursion Q xs
each P Q f [] all = tt
each P Q f (x ∷ xs) all = (f x all.0, each P Q f xs all.1)

among_filter : (p : Name → Bool) (q : Name) → p q ≡ true → (ns : List Name) → is_among q (filter p ns) ≡ is_among q ns
among_filter p q is [] = refl
among_filter p q is (n ∷ ns) =
    elim (p n) as (λ b. p n ≡ b → is_among q (cond b (n ∷ filter p ns) (filter p ns)) ≡ (same_name q n || is_among q ns)) [
      | true ↦ λ e. ap (λ b. same_name q n || b) (among_filter p q is ns)
      | false ↦ λ e.
          elim (same_name q n) as (λ b. same_name q n ≡ b → is_among q (filter p ns) ≡ (b || is_among q ns)) [
            | true ↦ λ same. let no : true ≡ false = sym is ∙ ap p (from_same q n same) ∙ e in cc
            | false ↦ λ same. among_filter p q is ns
          ] refl
    ] refl

filter_map-append : {X Y : Type 0} (f : X → Option Y) (xs ys : List X) → filter_map f (xs ++ ys) ≡ filter_map f xs ++ filter_map f ys
filter_map-append f [] ys = refl
filter_map-append f (x ∷ xs) ys = elim (f x) as (λ o. cons_option o (filter_map f (xs ++ ys)) ≡ cons_option o (filter_map f xs) ++ filter_map f ys) [ None ↦ filter_map-append f xs ys | Some y ↦ ap (λ zs. y ∷ zs) (filter_map-append f xs ys) ]

-- one name more
module _ {Y : Type 0} (f : Name → Option Y) (keys : List (Bor Name)) (i : ℕ) (d : Bor Name) (lt : i < length keys) where
  names_more : map (λ (k : Bor Name). k.now) (take (i + 1) keys) ≡ map (λ (k : Bor Name). k.now) (take i keys) ++ (get_or keys i d).now ∷ []
  names_more = ap (map (λ (k : Bor Name). k.now)) (take_more keys i d lt) ∙ map-append (λ (k : Bor Name). k.now) (take i keys) (get_or keys i d ∷ [])

  sifted : (o : Option Y) → f (get_or keys i d).now ≡ o → filter_map f (map (λ (k : Bor Name). k.now) (take (i + 1) keys)) ≡ filter_map f (map (λ (k : Bor Name). k.now) (take i keys)) ++ cons_option o []
  sifted o e = ap (filter_map f) names_more ∙ filter_map-append f _ ((get_or keys i d).now ∷ []) ∙ ap (λ x. filter_map f (map (λ (k : Bor Name). k.now) (take i keys)) ++ cons_option x []) e

  pub sift_some : (old new : List Y) (y : Y) → f (get_or keys i d).now ≡ Some y → new ≡ old ++ y ∷ [] → old ≡ filter_map f (map (λ (k : Bor Name). k.now) (take i keys)) → new ≡ filter_map f (map (λ (k : Bor Name). k.now) (take (i + 1) keys))
  sift_some old new y e is so_far = is ∙ ap (λ ys. ys ++ y ∷ []) so_far ∙ sym (sifted (Some y) e)

  pub sift_none : (old : List Y) → f (get_or keys i d).now ≡ None → old ≡ filter_map f (map (λ (k : Bor Name). k.now) (take i keys)) → old ≡ filter_map f (map (λ (k : Bor Name). k.now) (take (i + 1) keys))
  sift_none old e so_far = so_far ∙ sym (append-nil _) ∙ sym (sifted None e)

-- ---- keys of a map

first : (a b : Bool) → T (a && b) → T a
first true b p = tt
first false b p = p

second : (a b : Bool) → T (a && b) → T b
second true b p = p
second false b p = absurd p

less : (o : Ordering) → T (is_lt o) → o ≡ Less
less Less p = refl
less Equal p = absurd p
less Greater p = absurd p

above_all : {X : Type 0} (k : Name) (es : List (Name × X)) → T (below_all name_cmp k es) → AllByRecursion (λ y. name_cmp k y ≡ Less) (keys_of es)
above_all k [] h = tt
above_all k (e ∷ es) h = (less _ (first _ _ h), above_all k es (second _ _ h))

sorted_keys : {X : Type 0} (es : List (Name × X)) → T (is_sorted name_cmp es) → IsStrictlySortedBy name_cmp (keys_of es)
unfolding IsStrictlySortedBy
sorted_keys [] h = tt
sorted_keys (e ∷ es) h = (above_all e.0 es (first _ _ h), sorted_keys es (second _ _ h))

pub keys_sorted : {X : Type 0} (m : Map X) → IsStrictlySortedBy name_cmp (keys m)
keys_sorted m = sorted_keys (entries m) (entries_sorted m)

-- ---- names behind a front

front_cmp : (f a b : Name) → name_cmp (f ++ a) (f ++ b) ≡ name_cmp a b
front_cmp [] a b = refl
front_cmp (x ∷ f) a b = ap (λ o. ordering_then o (name_cmp (f ++ a) (f ++ b))) (tied_itself nat_cmp_total x) ∙ front_cmp f a b

module _ {X : Type 0} (pair : Name → Option (Name × X)) (f : Name) where
  -- what is at a name is named by what is behind the front
  Fronted : Name → Type 0
  Fronted q = (p : Name × X) → pair q ≡ Some p → q ≡ f ++ p.0

  below_pairs : (n k : Name) → n ≡ f ++ k → (ns : List Name) → AllByRecursion (λ y. name_cmp n y ≡ Less) ns → AllByRecursion Fronted ns → AllByRecursion (λ y. name_cmp k y ≡ Less) (keys_of (filter_map pair ns))
  unfolding Fronted
  below_pairs n k is [] all fronted = tt
  below_pairs n k is (m ∷ ns) all fronted =
      elim (pair m) as (λ o. pair m ≡ o → AllByRecursion (λ y. name_cmp k y ≡ Less) (keys_of (cons_option o (filter_map pair ns)))) [
        | None ↦ λ e. below_pairs n k is ns all.1 fronted.1
        | Some p ↦ λ e.
            let lower : name_cmp k p.0 ≡ Less = sym (front_cmp f k p.0) ∙ ap (λ x. name_cmp x (f ++ p.0)) (sym is) ∙ ap (name_cmp n) (sym (fronted.0 p e)) ∙ all.0 in
            (lower, below_pairs n k is ns all.1 fronted.1)
      ] refl

  pairs_rise : (ns : List Name) → IsStrictlySortedBy name_cmp ns → AllByRecursion Fronted ns → KeysRise (filter_map pair ns)
  unfolding Fronted IsStrictlySortedBy
  pairs_rise [] sorted fronted = tt
  pairs_rise (m ∷ ns) sorted fronted =
      elim (pair m) as (λ o. pair m ≡ o → KeysRise (cons_option o (filter_map pair ns))) [
        | None ↦ λ e. pairs_rise ns sorted.1 fronted.1
        | Some p ↦ λ e. (below_pairs m p.0 (fronted.0 p e) ns sorted.0 fronted.1, pairs_rise ns sorted.1 fronted.1)
      ] refl

  find_pair : (k : Name) (ns : List Name) → AllByRecursion Fronted ns → lookup (same_name k) (filter_map pair ns) ≡ cond (is_among (f ++ k) ns) (option_map (λ p. p.1) (pair (f ++ k))) None
  unfolding Fronted
  find_pair k [] fronted = refl
  find_pair k (m ∷ ns) fronted =
      let rest = find_pair k ns fronted.1 in
      elim (pair m) as (λ o. pair m ≡ o → lookup (same_name k) (cons_option o (filter_map pair ns)) ≡ cond (same_name (f ++ k) m || is_among (f ++ k) ns) (option_map (λ p. p.1) (pair (f ++ k))) None) [
        | None ↦ λ e.
            elim (same_name (f ++ k) m) as (λ t. same_name (f ++ k) m ≡ t → lookup (same_name k) (filter_map pair ns) ≡ cond (t || is_among (f ++ k) ns) (option_map (λ p. p.1) (pair (f ++ k))) None) [
              | true ↦ λ same.
                  let none : pair (f ++ k) ≡ None = ap pair (from_same (f ++ k) m same) ∙ e in
                  rest ∙ ap (λ o. cond (is_among (f ++ k) ns) (option_map (λ (p : Name × X). p.1) o) None) none
                  ∙ elim (is_among (f ++ k) ns) as (λ b. cond {A = Option X} b None None ≡ None) [ true ↦ refl | false ↦ refl ]
                  ∙ ap (option_map (λ (p : Name × X). p.1)) (sym none)
              | false ↦ λ same. rest
            ] refl
        | Some p ↦ λ e.
            let alike : same_name (f ++ k) m ≡ same_name k p.0 = ap (same_name (f ++ k)) (fronted.0 p e) ∙ ap is_eq (front_cmp f k p.0) in
            elim (same_name k p.0) as (λ t. same_name k p.0 ≡ t → cond t (Some p.1) (lookup (same_name k) (filter_map pair ns)) ≡ cond (same_name (f ++ k) m || is_among (f ++ k) ns) (option_map (λ p. p.1) (pair (f ++ k))) None) [
              | true ↦ λ same.
                  let here : same_name (f ++ k) m ≡ true = alike ∙ same in
                  ap (option_map (λ (p : Name × X). p.1)) (sym (ap pair (from_same (f ++ k) m here) ∙ e))
                  ∙ ap (λ t. cond (t || is_among (f ++ k) ns) (option_map (λ (p : Name × X). p.1) (pair (f ++ k))) None) (sym here)
              | false ↦ λ same. rest ∙ ap (λ t. cond (t || is_among (f ++ k) ns) (option_map (λ (p : Name × X). p.1) (pair (f ++ k))) None) (sym (alike ∙ same))
            ] refl
      ] refl

-- ---- variables

behind_front : (s t : Bool) (k q : Name) → starts_with nat_eq q (front s) ≡ true → variable_name t k ≡ q → q ≡ front s ++ folded k
unfolding variable_name
behind_front true true k q begins is = sym is
behind_front false false k q begins is = sym is
behind_front true false k q begins is = let no : starts_with nat_eq (variable_name false k) (front true) ≡ true = ap (λ n. starts_with nat_eq n (front true)) is ∙ begins in cc
behind_front false true k q begins is = let no : starts_with nat_eq (variable_name true k) (front false) ≡ true = ap (λ n. starts_with nat_eq n (front false)) is ∙ begins in cc

begins_front : (s : Bool) (k : Name) → starts_with nat_eq (front s ++ k) (front s) ≡ true
begins_front true k = refl
begins_front false k = refl

-- a variable stands at its own name
Named : Name → Name × List ℕ → Type 0
Named q p = (t : Bool) × (k : Name) × (variable_name t k ≡ q) × (p.0 ≡ folded k)

entry_named : (q : Name) (e : Entry) (p : Name × List ℕ) → MayStand q (Whole e) → option_map variable_pair (as_variable (Some e)) ≡ Some p → Named q p
unfolding Named
entry_named q (entry.Variable v) p may is = (v.system, v.name, may.named, let same : p ≡ variable_pair v = cc in ap (λ (x : Name × List ℕ). x.0) same)
entry_named q (entry.File f) p may is = cc
entry_named q (entry.Folder s) p may is = cc
entry_named q (entry.Value k v) p may is = cc
entry_named q (entry.Key r s) p may is = cc
entry_named q (entry.Shortcut s) p may is = cc
entry_named q (entry.Client s) p may is = cc
entry_named q (entry.Product s) p may is = cc
entry_named q (entry.System s t) p may is = cc

item_named : (items : Items) → AreRight items → (q : Name) (o : Option Item) (p : Name × List ℕ) → get items q ≡ o → option_map variable_pair (as_variable (whole_of o)) ≡ Some p → Named q p
item_named items right q None p at is = cc
item_named items right q (Some (Head h content)) p at is = cc
item_named items right q (Some (Whole e)) p at is = entry_named q e p (right q (Whole e) at) is

module _ (items : Items) (right : AreRight items) (system : Bool) where
  fronted_at : (q : Name) → starts_with nat_eq q (front system) ≡ true → Fronted (pair_at items) (front system) q
  unfolding Fronted Named
  fronted_at q begins p is =
      let named = item_named items right q (get items q) p refl is in
      behind_front system named.0 named.1 q begins named.2 ∙ ap (λ k. front system ++ k) (sym named.3)

  fronted_all : (ns : List Name) → AllByRecursion (Fronted (pair_at items) (front system)) (filter (λ q. starts_with nat_eq q (front system)) ns)
  fronted_all ns = each (λ q. starts_with nat_eq q (front system) ≡ true) (Fronted (pair_at items) (front system)) fronted_at _ (filter_all (λ q. starts_with nat_eq q (front system)) ns)

  module _ (held files : Map (List ℕ)) (ns : List Name) (es : List (Name × List ℕ))
      (named : ns ≡ filter (λ q. starts_with nat_eq q (front system)) (keys (machine_over held files items))) (is : es ≡ filter_map (pair_at items) ns) where
    pairs : es ≡ filter_map (pair_at items) (filter (λ q. starts_with nat_eq q (front system)) (keys (machine_over held files items)))
    pairs = is ∙ ap (filter_map (pair_at items)) named

    pub kept_rise : KeysRise es
    kept_rise = subst KeysRise (sym pairs) (pairs_rise (pair_at items) (front system) _ (IsStrictlySortedBy-filter name_cmp (λ q. starts_with nat_eq q (front system)) (keys (machine_over held files items)) (keys_sorted (machine_over held files items))) (fronted_all (keys (machine_over held files items))))

    second_pair : (o : Option Variable) → option_map (λ p. p.1) (option_map variable_pair o) ≡ option_map (λ (v : Variable). v.value) o
    second_pair None = refl
    second_pair (Some v) = refl

    there : (o : Option Entry) → cond (is_some o) (option_map (λ (v : Variable). v.value) (as_variable o)) None ≡ option_map (λ (v : Variable). v.value) (as_variable o)
    there None = refl
    there (Some e) = refl

    pub kept_value : (name : Name) → value_at_fold es name ≡ option_map (λ (v : Variable). v.value) (variable_at (machine_over held files items) system name)
    unfolding variable_name
    kept_value name =
        let m = machine_over held files items in
        let q = front system ++ folded name in
        let over : variable_at_name items q ≡ as_variable (get m q) = over_whole as_variable (λ f. refl) held files items q in
        ap (λ xs. lookup (same_name (folded name)) xs) pairs
        ∙ find_pair (pair_at items) (front system) (folded name) (filter (λ q. starts_with nat_eq q (front system)) (keys m)) (fronted_all (keys m))
        ∙ ap (λ b. cond b (option_map (λ (p : Name × List ℕ). p.1) (pair_at items q)) None) (among_filter (λ q. starts_with nat_eq q (front system)) q (begins_front system (folded name)) (keys m) ∙ sym (among-keys m q))
        ∙ ap (λ o. cond (is_some (get m q)) o None) (second_pair (variable_at_name items q) ∙ ap (option_map (λ (v : Variable). v.value)) over)
        ∙ there (get m q)

-- the user's, else the system's
pub either : (a b : Option Variable) (c d : Option (List ℕ)) → c ≡ option_map (λ (v : Variable). v.value) a → d ≡ option_map (λ (v : Variable). v.value) b
    → unwrap_or (option_or c d) [] ≡ unwrap_or (option_map (λ (v : Variable). v.value) (option_or a b)) []
either None b c d e f = ap (λ o. unwrap_or (option_or o d) []) e ∙ ap (λ o. unwrap_or o []) f
either (Some v) b c d e f = ap (λ o. unwrap_or (option_or o d) []) e
