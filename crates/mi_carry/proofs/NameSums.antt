-- Sums over lists of names in which none stands twice.
use Rattle.std.proofs.Common.{◌≡◌, ℕ, ◌+◌, ◌-◌, ◌≤◌, max, Bool, true, false, cond, ◌||◌, T, List, [], ◌∷◌, ◌++◌, map, refl, sym, ap, ◌∙◌, arith, sum_by}
use Rattle.std.specs.Prelude.{◌&&◌}
use Rattle.std.specs.Ordering.{is_eq, is_lt}
use Rattle.std.specs.declared.cmp.Ordering.{Ordering}
use Rattle.std.specs.declared.cmp.Ordering.TheVariants.{Less, Equal, Greater}
use Rattle.std.specs.FinMap.{keys, entries, entries_sorted, get}
use Rattle.std.specs.FinMap.Entries.{is_sorted, below_all}
use Rattle.std.proofs.lemmas.Bool.{or_left, or_right}
use Rattle.std.proofs.lemmas.List.Sums.{sum_by-cons}
use Rattle.mi_text.specs.Maps as names
use Rattle.mi_text.specs.Maps.{Name, name_cmp, same_name, is_among, set_to}
use Rattle.mi_text.proofs.MapLemmas.{from_same, same_itself, is_among-append, get-set_to}
use Rattle.mi_volume.specs.Maps.{Map, size, slot_size}
use Rattle.mi_volume.proofs.SizeLemmas.{size-set_to, size-at_most}
use Rattle.mi_undo.specs.Notes.{new_names}

-- none stands twice
abbrev pub Apart : List Name → Type 0
Apart [] = Unit {0}
Apart (n ∷ names) = (is_among n names ≡ false) × Apart names

-- ---- the keys of a map

is_true : (b : Bool) → T b → b ≡ true
is_true true t = refl
is_true false t = absurd t

both : (a b : Bool) → a && b ≡ true → (a ≡ true) × (b ≡ true)
both true b is = (refl, is)
both false b is = cc

less_apart : (o : Ordering) → is_lt o ≡ true → is_eq o ≡ false
less_apart Less is = refl
less_apart Equal is = cc
less_apart Greater is = cc

below_apart : {X : Type 0} → (n : Name) (es : List (Name × X)) → below_all name_cmp n es ≡ true → is_among n (map (λ e. e.0) es) ≡ false
below_apart n [] is = refl
below_apart n (e ∷ es) is =
    let parts = both (is_lt (name_cmp n e.0)) (below_all name_cmp n es) is in
    ap (λ (b : Bool). b || is_among n (map (λ e. e.0) es)) (less_apart (name_cmp n e.0) parts.0) ∙ below_apart n es parts.1

sorted_apart : {X : Type 0} → (es : List (Name × X)) → is_sorted name_cmp es ≡ true → Apart (map (λ e. e.0) es)
sorted_apart [] is = tt
sorted_apart (e ∷ es) is =
    let parts = both (below_all name_cmp e.0 es) (is_sorted name_cmp es) is in
    (below_apart e.0 es parts.0, sorted_apart es parts.1)

pub keys_apart : {X : Type 0} → (m : names.Map X) → Apart (keys m)
keys_apart m = sorted_apart (entries m) (is_true (is_sorted name_cmp (entries m)) (entries_sorted m))

-- ---- names that are added

other_way : (q n : Name) → same_name q n ≡ false → same_name n q ≡ false
other_way q n is = at (same_name n q) refl
  where
    at : (b : Bool) → same_name n q ≡ b → same_name n q ≡ false
    at true e = let one : same_name q n ≡ true = ap (same_name q) (from_same n q e) ∙ same_itself q in let clash : false ≡ true = sym is ∙ one in absurd (cc)
    at false e = e

neither : (a b : Bool) → (a || b) ≡ false → (a ≡ false) × (b ≡ false)
neither true b is = cc
neither false b is = (refl, is)

apart_one_more : (names : List Name) (n : Name) → Apart names → is_among n names ≡ false → Apart (names ++ n ∷ [])
apart_one_more [] n apart free = (refl, tt)
apart_one_more (x ∷ names) n apart free =
    let parts = neither (same_name n x) (is_among n names) free in
    (is_among-append x names (n ∷ []) ∙ ap (λ (b : Bool). b || (same_name x n || false)) apart.0 ∙ ap (λ (b : Bool). b || false) (other_way n x parts.0), apart_one_more names n apart.1 parts.1)

moved : (xs : List Name) (x : Name) (ys : List Name) → xs ++ x ∷ ys ≡ (xs ++ x ∷ []) ++ ys
moved [] x ys = refl
moved (y ∷ xs) x ys = ap (λ (l : List Name). y ∷ l) (moved xs x ys)

pub new_apart : (seen names : List Name) → Apart seen → Apart (seen ++ new_names seen names)
new_apart seen [] apart = nothing_more seen apart
  where
    nothing_more : (xs : List Name) → Apart xs → Apart (xs ++ [])
    nothing_more [] a = tt
    nothing_more (x ∷ xs) a = (is_among-append x xs [] ∙ ap (λ (b : Bool). b || false) a.0, nothing_more xs a.1)
new_apart seen (n ∷ names) apart = elim (is_among n seen) as (λ b. is_among n seen ≡ b → Apart (seen ++ cond b (new_names seen names) (n ∷ new_names (seen ++ n ∷ []) names))) [
  | true ↦ λ old. new_apart seen names apart
  | false ↦ λ new. rw (moved seen n (new_names (seen ++ n ∷ []) names)) (new_apart (seen ++ n ∷ []) names (apart_one_more seen n apart new))
] refl

or_false : (a : Bool) → (a || false) ≡ a
or_false true = refl
or_false false = refl

or_known : (a b c : Bool) → (b ≡ true → a ≡ true) → (a || c) ≡ (a || (b || c))
or_known true b c h = refl
or_known false true c h = let clash : false ≡ true = h refl in absurd (cc)
or_known false false c h = refl

or_moved : (a b c : Bool) → ((a || (b || false)) || c) ≡ (a || (b || c))
or_moved true b c = refl
or_moved false true c = refl
or_moved false false c = refl

-- with the new ones they are all of these
pub among-new : (seen names : List Name) (q : Name) → is_among q (seen ++ new_names seen names) ≡ (is_among q seen || is_among q names)
among-new seen [] q = is_among-append q seen []
among-new seen (n ∷ names) q = elim (is_among n seen) as (λ b. is_among n seen ≡ b → is_among q (seen ++ cond b (new_names seen names) (n ∷ new_names (seen ++ n ∷ []) names)) ≡ (is_among q seen || (same_name q n || is_among q names))) [
  | true ↦ λ old. among-new seen names q ∙ or_known (is_among q seen) (same_name q n) (is_among q names) (λ is. ap (λ (x : Name). is_among x seen) (from_same q n is) ∙ old)
  | false ↦ λ new.
      ap (is_among q) (moved seen n (new_names (seen ++ n ∷ []) names)) ∙ among-new (seen ++ n ∷ []) names q
      ∙ ap (λ (b : Bool). b || is_among q names) (is_among-append q seen (n ∷ [])) ∙ or_moved (is_among q seen) (same_name q n) (is_among q names)
] refl

-- where all are seen, none is new
pub none_new : (seen names : List Name) → ((q : Name) → is_among q names ≡ true → is_among q seen ≡ true) → new_names seen names ≡ []
none_new seen [] all = refl
none_new seen (n ∷ names) all =
    let here = all n (or_left (same_name n n) (is_among n names) (same_itself n)) in
    ap (λ (b : Bool). cond b (new_names seen names) (n ∷ new_names (seen ++ n ∷ []) names)) here ∙ none_new seen names (λ q is. all q (or_right (same_name q n) (is_among q names) is))

-- a name of the last ones isn't one of the first
behind : (x q : Name) (xs ys : List Name) → is_among x (xs ++ ys) ≡ false → is_among q ys ≡ true → same_name q x ≡ false
behind x q xs ys free is = at (same_name q x) refl
  where
    at : (b : Bool) → same_name q x ≡ b → same_name q x ≡ false
    at true e =
        let held : is_among x (xs ++ ys) ≡ true = is_among-append x xs ys ∙ or_right (is_among x xs) (is_among x ys) (ap (λ (y : Name). is_among y ys) (sym (from_same q x e)) ∙ is) in
        let clash : false ≡ true = sym free ∙ held in
        absurd (cc)
    at false e = e

pub last_unseen : (xs ys : List Name) (q : Name) → Apart (xs ++ ys) → is_among q ys ≡ true → is_among q xs ≡ false
last_unseen [] ys q apart is = refl
last_unseen (x ∷ xs) ys q apart is = ap (λ (b : Bool). b || is_among q xs) (behind x q xs ys apart.0 is) ∙ last_unseen xs ys q apart.1 is

-- ---- sums

pub sum_on : (f g : Name → ℕ) (names : List Name) → ((q : Name) → is_among q names ≡ true → f q ≡ g q) → sum_by f names ≡ sum_by g names
sum_on f g [] h = refl
sum_on f g (n ∷ names) h =
    let rest = sum_on f g names (λ q is. h q (or_right (same_name q n) (is_among q names) is)) in
    let here = h n (or_left (same_name n n) (is_among n names) (same_itself n)) in
    omega (arith, sum_by-cons f n names, sum_by-cons g n names, rest, here)

pub sum_both : (f g : Name → ℕ) (names : List Name) → sum_by (λ q. f q + g q) names ≡ sum_by f names + sum_by g names
sum_both f g [] = omega arith
sum_both f g (n ∷ names) = omega (arith, sum_by-cons (λ q. f q + g q) n names, sum_by-cons f n names, sum_by-cons g n names, sum_both f g names)

-- the list without the first of this name
without : Name → List Name → List Name
without n [] = []
without n (y ∷ ys) = cond (same_name n y) ys (y ∷ without n ys)

without_sum : (f : Name → ℕ) (n : Name) (ys : List Name) → is_among n ys ≡ true → sum_by f ys ≡ f n + sum_by f (without n ys)
unfolding without
without_sum f n [] is = cc
without_sum f n (y ∷ ys) is = elim (same_name n y) as (λ b. same_name n y ≡ b → (b || is_among n ys) ≡ true → sum_by f (y ∷ ys) ≡ f n + sum_by f (cond b ys (y ∷ without n ys))) [
  | true ↦ λ e i. let same : f n ≡ f y = ap f (from_same n y e) in omega (arith, sum_by-cons f y ys, same)
  | false ↦ λ e i. omega (arith, sum_by-cons f y ys, sum_by-cons f y (without n ys), without_sum f n ys i)
] refl is

without_among : (n : Name) (ys : List Name) (q : Name) → same_name q n ≡ false → is_among q ys ≡ true → is_among q (without n ys) ≡ true
unfolding without
without_among n [] q other is = is
without_among n (y ∷ ys) q other is = elim (same_name n y) as (λ b. same_name n y ≡ b → is_among q (cond b ys (y ∷ without n ys)) ≡ true) [
  | true ↦ λ e.
      let apart : same_name q y ≡ false = ap (same_name q) (sym (from_same n y e)) ∙ other in
      sym (ap (λ (b : Bool). b || is_among q ys) apart) ∙ is
  | false ↦ λ e. elim (same_name q y) as (λ b. (b || is_among q ys) ≡ true → (b || is_among q (without n ys)) ≡ true) [
    | true ↦ λ i. refl
    | false ↦ λ i. without_among n ys q other i
  ] is
] refl

-- names of which none stands twice count no more than those among which they are
pub sum_among : (f : Name → ℕ) (xs ys : List Name) → Apart xs → ((q : Name) → is_among q xs ≡ true → is_among q ys ≡ true) → sum_by f xs ≤ sum_by f ys
sum_among f [] ys apart all = omega arith
sum_among f (x ∷ xs) ys apart all =
    let here = all x (or_left (same_name x x) (is_among x xs) (same_itself x)) in
    let rest = sum_among f xs (without x ys) apart.1 (λ q is. without_among x ys q (behind x q [] xs apart.0 is) (all q (or_right (same_name q x) (is_among q xs) is))) in
    omega (arith, sum_by-cons f x xs, without_sum f x ys here, rest)

-- ---- sizes of maps

-- Beside these names m holds no more than the former map, and at each no more than the greater of what that holds and G. Then m, and what they may
-- still grow up to g, is no more than the former map and what they grow there up to G.
pub grown_sum : (g G : Name → ℕ) (F : Map) (names : List Name) (m : Map) → Apart names → ((q : Name) → g q ≤ G q)
    → ((q : Name) → is_among q names ≡ false → slot_size q (get m q) ≤ slot_size q (get F q))
    → ((q : Name) → is_among q names ≡ true → slot_size q (get m q) ≤ max (slot_size q (get F q)) (G q))
    → size m + sum_by (λ q. g q - slot_size q (get m q)) names ≤ size F + sum_by (λ q. G q - slot_size q (get F q)) names
grown_sum g G F [] m apart less others each = let all = size-at_most m F (λ q. others q refl) in omega (arith, all)
grown_sum g G F (n ∷ names) m apart less others each =
    let k = set_to m n (get F n) in
    let sum = size-set_to m n (get F n) in
    let rest = grown_sum g G F names k apart.1 less (λ q free. beside q free (same_name q n) refl) (λ q held. there q held) in
    let same_sum = sum_on (λ q. g q - slot_size q (get k q)) (λ q. g q - slot_size q (get m q)) names (λ q held. ap (λ (x : ℕ). g q - x) (kept q held)) in
    let here = each n (or_left (same_name n n) (is_among n names) (same_itself n)) in
    omega (arith, sum, rest, same_sum, here, less n, sum_by-cons (λ q. g q - slot_size q (get m q)) n names, sum_by-cons (λ q. G q - slot_size q (get F q)) n names)
  where
    kept : (q : Name) → is_among q names ≡ true → slot_size q (get (set_to m n (get F n)) q) ≡ slot_size q (get m q)
    kept q held = ap (slot_size q) (get-set_to m n (get F n) q ∙ ap (λ (b : Bool). cond b (get F n) (get m q)) (behind n q [] names apart.0 held))

    there : (q : Name) → is_among q names ≡ true → slot_size q (get (set_to m n (get F n)) q) ≤ max (slot_size q (get F q)) (G q)
    there q held = omega (arith, kept q held, each q (or_right (same_name q n) (is_among q names) held))

    beside : (q : Name) → is_among q names ≡ false → (b : Bool) → same_name q n ≡ b → slot_size q (get (set_to m n (get F n)) q) ≤ slot_size q (get F q)
    beside q free true e =
        let is : slot_size q (get (set_to m n (get F n)) q) ≡ slot_size q (get F q) = ap (slot_size q) (get-set_to m n (get F n) q ∙ ap (λ (b : Bool). cond b (get F n) (get m q)) e ∙ ap (get F) (sym (from_same q n e))) in
        omega (arith, is)
    beside q free false e =
        let is : slot_size q (get (set_to m n (get F n)) q) ≡ slot_size q (get m q) = ap (slot_size q) (get-set_to m n (get F n) q ∙ ap (λ (b : Bool). cond b (get F n) (get m q)) e) in
        omega (arith, is, others q (ap (λ (b : Bool). b || is_among q names) e ∙ free))
