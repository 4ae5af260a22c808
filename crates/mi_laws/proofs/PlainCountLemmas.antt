-- How often the changes of touches name a name.
use Rattle.std.proofs.Common.{◌≡◌, ℕ, ◌+◌, ◌≤◌, ◌<◌, Bool, true, false, cond, T, ◌&&◌, ◌||◌, List, [], ◌∷◌, ◌++◌, map, filter, length, Option, refl, sym, ap, subst, ◌∙◌, arith}
use Rattle.std.specs.Ordering.{is_eq, is_lt}
use Rattle.std.specs.declared.cmp.Ordering.{Ordering}
use Rattle.std.specs.declared.cmp.Ordering.TheVariants.{Less, Equal, Greater}
use Rattle.std.specs.FinMap.{keys, entries, is_sorted, entries_sorted}
use Rattle.std.specs.FinMap.Entries.{below_all}
use Rattle.mi_text.specs.Maps.{Name, name_cmp, same_name}
use Rattle.mi_text.proofs.MapLemmas.{from_same}
use Rattle.mi_base.specs.declared.entry.Entry.{Entry}
use Rattle.mi_base.specs.Machine.{Machine}
use Rattle.mi_changes.specs.Touches.{Set, Clear, touched, by_touch}
use Rattle.mi_changes.specs.Changes.{Change, gone, changes}
use Rattle.mi_changes.proofs.ChangeLemmas.{changes-append}
use Rattle.mi_model.specs.PhaseRows.{Touches}
use Rattle.mi_model.specs.Plain.{times}

times-append : {X : Type 0} → (q : Name) (a b : List (Change X)) → times q (a ++ b) ≡ times q a + times q b
times-append q [] b = omega arith
times-append q (c ∷ a) b =
    elim (same_name q c.at) as (λ s. cond s (1 + times q (a ++ b)) (times q (a ++ b)) ≡ cond s (1 + times q a) (times q a) + times q b) [
      | true ↦ omega (arith, times-append q a b)
      | false ↦ times-append q a b
    ]

-- ---- touches that name a name at most once

abbrev pub AreOnce : Touches → Type 0
AreOnce ts = (m : Machine) (q : Name) → times q (changes m ts) ≤ 1

-- They name only names of a kind, each at most once.
pub record AreOf (kind : Name → Bool) (ts : Touches) : Type 0 where
  pub others : (m : Machine) (q : Name) → kind q ≡ false → times q (changes m ts) ≡ 0
  pub once : AreOnce ts

pub none_of : (kind : Name → Bool) → AreOf kind []
none_of kind = record { others = λ m q e. refl; once = λ m q. omega arith }

at_most_one : (b : Bool) → cond b 1 0 ≤ 1
at_most_one true = omega arith
at_most_one false = omega arith

-- names of one kind and of another are different
another : (kind : Name → Bool) (q n : Name) → kind n ≡ true → kind q ≡ false → same_name q n ≡ false
another kind q n is isnt = elim (same_name q n) as (λ b. same_name q n ≡ b → b ≡ false) [
  | true ↦ λ e. sym is ∙ ap kind (sym (from_same q n e)) ∙ isnt
  | false ↦ λ e. refl
] refl

pub one_of : (kind : Name → Bool) (n : Name) (change : Option Entry → Option Entry) → kind n ≡ true → AreOf kind (Set n change ∷ [])
one_of kind n change is = record {
  others = λ m q isnt. ap (λ (b : Bool). cond b 1 0) (another kind q n is isnt);
  once = λ m q. at_most_one (same_name q n);
}

pub none_once : AreOnce []
none_once m q = omega arith

pub one_once : (n : Name) (change : Option Entry → Option Entry) → AreOnce (Set n change ∷ [])
one_once n change m q = at_most_one (same_name q n)

few : (a b : Bool) → (a ≡ true → b ≡ false) → cond a (1 + cond b 1 0) (cond b 1 0) ≤ 1
few true b apart = ap_few (apart refl)
  where
    ap_few : b ≡ false → 1 + cond b 1 0 ≤ 1
    ap_few e = rw e (omega arith)
few false b apart = at_most_one b

pub two_of : (kind : Name → Bool) (n k : Name) (change other : Option Entry → Option Entry) → kind n ≡ true → kind k ≡ true → same_name n k ≡ false → AreOf kind (Set n change ∷ Set k other ∷ [])
two_of kind n k change other n_is k_is apart = record {
  others = λ m q isnt. rw (another kind q n n_is isnt, another kind q k k_is isnt) refl;
  once = λ m q. few (same_name q n) (same_name q k) (λ is. ap (λ (p : Name). same_name p k) (from_same q n is) ∙ apart);
}

-- touches of two kinds
pub both_of : (p r : Name → Bool) (a b : Touches) → ((q : Name) → p q ≡ true → r q ≡ false) → AreOf p a → AreOf r b → AreOf (λ q. p q || r q) (a ++ b)
both_of p r a b apart first second = record {
  others = λ m q isnt. split m q ∙ none (p q) (r q) isnt (first.others m q) (second.others (by_touch m a) q);
  once = λ m q. subst (λ n. n ≤ 1) (sym (split m q)) (one (p q) (r q) (apart q) (first.others m q) (second.others (by_touch m a) q) (first.once m q) (second.once (by_touch m a) q));
}
  where
    split : (m : Machine) (q : Name) → times q (changes m (a ++ b)) ≡ times q (changes m a) + times q (changes (by_touch m a) b)
    split m q = ap (times q) (changes-append m a b) ∙ times-append q (changes m a) (changes (by_touch m a) b)

    none : (s t : Bool) {i j : ℕ} → (s || t) ≡ false → (s ≡ false → i ≡ 0) → (t ≡ false → j ≡ 0) → i + j ≡ 0
    none true t e f g = cc
    none false true e f g = cc
    none false false e f g = omega (arith, f refl, g refl)

    one : (s t : Bool) {i j : ℕ} → (s ≡ true → t ≡ false) → (s ≡ false → i ≡ 0) → (t ≡ false → j ≡ 0) → i ≤ 1 → j ≤ 1 → i + j ≤ 1
    one true t h f g i_few j_few = omega (arith, g (h refl), i_few)
    one false t h f g i_few j_few = omega (arith, f refl, j_few)

-- ---- names that get longer and longer

abbrev pub RiseFrom : {A : Type 0} → (A → ℕ) → ℕ → List A → Type 0
RiseFrom f l [] = Unit {0}
RiseFrom f l (x ∷ xs) = (l < f x) × RiseFrom f (f x) xs

pub rise-map : {A B : Type 0} → (g : B → A) (f : A → ℕ) (l : ℕ) (xs : List B) → RiseFrom (λ x. f (g x)) l xs → RiseFrom f l (map g xs)
rise-map g f l [] r = tt
rise-map g f l (x ∷ xs) r = (r.0, rise-map g f (f (g x)) xs r.1)

abbrev named_by : {A : Type 0} → (A → Name) → A → ℕ
named_by name x = length (name x)

abbrev pub settings : {A : Type 0} → (A → Name) → (A → Option Entry → Option Entry) → List A → Touches
settings name change xs = map (λ x. Set (name x) (change x)) xs

longer : (q n : Name) (l : ℕ) → length q ≤ l → l < length n → same_name q n ≡ false
longer q n l short long = elim (same_name q n) as (λ b. same_name q n ≡ b → b ≡ false) [
  | true ↦ λ e. let same : length q ≡ length n = ap length (from_same q n e) in absurd (omega (arith, same, short, long))
  | false ↦ λ e. refl
] refl

none_longer : {A : Type 0} → (name : A → Name) (change : A → Option Entry → Option Entry) (l : ℕ) (xs : List A) (m : Machine) (q : Name)
    → RiseFrom (λ x. length (name x)) l xs → length q ≤ l → times q (changes m (settings name change xs)) ≡ 0
none_longer name change l [] m q r short = refl
none_longer name change l (x ∷ xs) m q r short =
    let next = touched m (Set (name x) (change x)) in
    ap (λ (b : Bool). cond b (1 + times q (changes next (settings name change xs))) (times q (changes next (settings name change xs)))) (longer q (name x) l short r.0)
    ∙ none_longer name change (length (name x)) xs next q r.1 (omega (arith, short, r.0))

once_each : {A : Type 0} → (name : A → Name) (change : A → Option Entry → Option Entry) (l : ℕ) (xs : List A) (m : Machine) (q : Name)
    → RiseFrom (λ x. length (name x)) l xs → times q (changes m (settings name change xs)) ≤ 1
once_each name change l [] m q r = omega arith
once_each name change l (x ∷ xs) m q r =
    let next = touched m (Set (name x) (change x)) in
    elim (same_name q (name x)) as (λ b. same_name q (name x) ≡ b → cond b (1 + times q (changes next (settings name change xs))) (times q (changes next (settings name change xs))) ≤ 1) [
      | true ↦ λ is.
          let same : length q ≡ length (name x) = ap length (from_same q (name x) is) in
          omega (arith, none_longer name change (length (name x)) xs next q r.1 (omega (arith, same)))
      | false ↦ λ isnt. once_each name change (length (name x)) xs next q r.1
    ] refl

others_stay : {A : Type 0} → (kind : Name → Bool) (name : A → Name) (change : A → Option Entry → Option Entry) (xs : List A) (m : Machine) (q : Name)
    → ((x : A) → kind (name x) ≡ true) → kind q ≡ false → times q (changes m (settings name change xs)) ≡ 0
others_stay kind name change [] m q each isnt = refl
others_stay kind name change (x ∷ xs) m q each isnt =
    let next = touched m (Set (name x) (change x)) in
    ap (λ (b : Bool). cond b (1 + times q (changes next (settings name change xs))) (times q (changes next (settings name change xs)))) (another kind q (name x) (each x) isnt)
    ∙ others_stay kind name change xs next q each isnt

pub rising_of : {A : Type 0} → (kind : Name → Bool) (name : A → Name) (change : A → Option Entry → Option Entry) (l : ℕ) (xs : List A)
    → ((x : A) → kind (name x) ≡ true) → RiseFrom (λ x. length (name x)) l xs → AreOf kind (settings name change xs)
rising_of kind name change l xs each r = record {
  others = λ m q isnt. others_stay kind name change xs m q each isnt;
  once = λ m q. once_each name change l xs m q r;
}

-- ---- what is taken away

abbrev keys_in : List (Name × Entry) → List Name
keys_in es = map (λ (e : Name × Entry). e.0) es

first : (a b : Bool) → T (a && b) → T a
first true b t = tt
first false b t = t

second : (a b : Bool) → T (a && b) → T b
second true b t = t
second false b t = absurd t

below : (o : Ordering) → T (is_lt o) → is_eq o ≡ false
below Less t = refl
below Equal t = absurd t
below Greater t = absurd t

fewer : (p : Name → Bool) (q : Name) (names : List Name) → times {X = Entry} q (map gone (filter p names)) ≤ times {X = Entry} q (map gone names)
fewer p q [] = omega arith
fewer p q (n ∷ names) = elim (p n) as (λ b. times {X = Entry} q (map gone (cond b (n ∷ filter p names) (filter p names))) ≤ cond (same_name q n) (1 + times {X = Entry} q (map gone names)) (times {X = Entry} q (map gone names))) [
  | true ↦ elim (same_name q n) as (λ s. cond s (1 + times {X = Entry} q (map gone (filter p names))) (times {X = Entry} q (map gone (filter p names))) ≤ cond s (1 + times {X = Entry} q (map gone names)) (times {X = Entry} q (map gone names))) [
    | true ↦ omega (arith, fewer p q names)
    | false ↦ fewer p q names
  ]
  | false ↦ elim (same_name q n) as (λ s. times {X = Entry} q (map gone (filter p names)) ≤ cond s (1 + times {X = Entry} q (map gone names)) (times {X = Entry} q (map gone names))) [
    | true ↦ omega (arith, fewer p q names)
    | false ↦ fewer p q names
  ]
]

not_above : (q : Name) (es : List (Name × Entry)) → T (below_all name_cmp q es) → times {X = Entry} q (map gone (keys_in es)) ≡ 0
not_above q [] t = refl
not_above q (e ∷ es) t =
    ap (λ (b : Bool). cond b (1 + times {X = Entry} q (map gone (keys_in es))) (times {X = Entry} q (map gone (keys_in es)))) (below (name_cmp q e.0) (first (is_lt (name_cmp q e.0)) (below_all name_cmp q es) t))
    ∙ not_above q es (second (is_lt (name_cmp q e.0)) (below_all name_cmp q es) t)

held_once : (q : Name) (es : List (Name × Entry)) → T (is_sorted name_cmp es) → times {X = Entry} q (map gone (keys_in es)) ≤ 1
held_once q [] t = omega arith
held_once q (e ∷ es) t =
    let rest = held_once q es (second (below_all name_cmp e.0 es) (is_sorted name_cmp es) t) in
    elim (same_name q e.0) as (λ b. same_name q e.0 ≡ b → cond b (1 + times {X = Entry} q (map gone (keys_in es))) (times {X = Entry} q (map gone (keys_in es))) ≤ 1) [
      | true ↦ λ is.
          let above : T (below_all name_cmp q es) = subst (λ (n : Name). T (below_all name_cmp n es)) (sym (from_same q e.0 is)) (first (below_all name_cmp e.0 es) (is_sorted name_cmp es) t) in
          omega (arith, not_above q es above)
      | false ↦ λ isnt. rest
    ] refl

-- what takes away takes each name that is held once
pub clear_once : (p : Name → Bool) → AreOnce (Clear p ∷ [])
clear_once p m q =
    let all : times {X = Entry} q (map gone (keys m)) ≤ 1 = held_once q (entries m) (entries_sorted m) in
    omega (arith, times-append {X = Entry} q (map gone (filter p (keys m))) [], fewer p q (keys m), all)
