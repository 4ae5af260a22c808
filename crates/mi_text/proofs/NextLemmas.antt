-- A scan by the next held name reads what the map says.
use Rattle.std.proofs.Common.{◌≡◌, Bool, true, false, cond, ◌&&◌, ◌||◌, T, ◌⊎◌, inl, inr, ⊎_elim, List, [], ◌∷◌, map, Option, Some, None, refl, sym, ap, ◌∙◌}
use Rattle.std.specs.Prelude.{find, is_some}
use Rattle.std.specs.Ordering.{is_lt, is_gt, ordering_reverse}
use Rattle.std.specs.declared.cmp.Ordering.{Ordering}
use Rattle.std.specs.declared.cmp.Ordering.TheVariants.{Less, Equal, Greater}
use Rattle.std.specs.Cmp.{tied_itself}
use Rattle.std.specs.FinMap as fin
use Rattle.std.specs.FinMap.Entries.{below_all}
use Rattle.std.specs.FinMap.{get, keys, entries, empty, is_sorted, get-entries, get-empty, entries_sorted}
use Rattle.mi_text.specs.Maps.{Name, name_cmp, same_name, Map, set_to, is_among}
use Rattle.mi_text.specs.Next.{is_behind, next_name, UpTo}
use Rattle.mi_text.proofs.MapLemmas.{among-keys, names_total, from_same, same_itself, get-set_to}

both : (a b : Bool) → (a && b) ≡ true → (a ≡ true) × (b ≡ true)
both true b e = (refl, e)
both false b e = cc

true_of : (b : Bool) → T b → b ≡ true
true_of true t = refl
true_of false t = absurd t

turned : (a b : Ordering) → a ≡ ordering_reverse b → is_lt b ≡ true → is_gt a ≡ true
turned a Less e h = ap is_gt e
turned a Equal e h = cc
turned a Greater e h = cc

-- what stands behind k in a list that rises from k
all_behind : {X : Type 0} → (k : Name) (es : List (Name × X)) (q : Name) (x : X) → below_all name_cmp k es ≡ true → fin.find name_cmp q es ≡ Some x → is_gt (name_cmp q k) ≡ true
all_behind k [] q x below is = cc
all_behind k (e ∷ es) q x below is =
    let parts = both (is_lt (name_cmp k e.0)) (below_all name_cmp k es) below in
    elim (same_name q e.0) as (λ b. same_name q e.0 ≡ b → cond b (Some e.1) (fin.find name_cmp q es) ≡ Some x → is_gt (name_cmp q k) ≡ true) [
      | true ↦ λ b h. ap (λ (n : Name). is_gt (name_cmp n k)) (from_same q e.0 b) ∙ turned (name_cmp e.0 k) (name_cmp k e.0) (names_total.antisymm e.0 k) parts.0
      | false ↦ λ b h. all_behind k es q x parts.1 h
    ] refl is

first_of_all : {X : Type 0} → (p : Name → Bool) (es : List (Name × X)) (k q : Name) (x : X) → is_sorted name_cmp es ≡ true → find p (map (λ (e : Name × X). e.0) es) ≡ Some k → fin.find name_cmp q es ≡ Some x → p q ≡ true
    → (same_name q k ≡ true) ⊎ (is_gt (name_cmp q k) ≡ true)
first_of_all p [] k q x sorted at is passes = cc
first_of_all p (e ∷ es) k q x sorted at is passes =
    let parts = both (below_all name_cmp e.0 es) (is_sorted name_cmp es) sorted in
    elim (p e.0) as (λ b. p e.0 ≡ b → cond b (Some e.0) (find p (map (λ (e : Name × _). e.0) es)) ≡ Some k → (same_name q k ≡ true) ⊎ (is_gt (name_cmp q k) ≡ true)) [
      | true ↦ λ b h.
          let here : e.0 ≡ k = cc in
          elim (same_name q e.0) as (λ t. same_name q e.0 ≡ t → cond t (Some e.1) (fin.find name_cmp q es) ≡ Some x → (same_name q k ≡ true) ⊎ (is_gt (name_cmp q k) ≡ true)) [
            | true ↦ λ t i. inl (ap (same_name q) (sym here) ∙ t)
            | false ↦ λ t i. inr (ap (λ (n : Name). is_gt (name_cmp q n)) (sym here) ∙ all_behind e.0 es q x parts.0 i)
          ] refl is
      | false ↦ λ b h.
          elim (same_name q e.0) as (λ t. same_name q e.0 ≡ t → cond t (Some e.1) (fin.find name_cmp q es) ≡ Some x → (same_name q k ≡ true) ⊎ (is_gt (name_cmp q k) ≡ true)) [
            | true ↦ λ t i. let no_pass : p q ≡ false = ap p (from_same q e.0 t) ∙ b in cc
            | false ↦ λ t i. first_of_all p es k q x parts.1 h i passes
          ] refl is
    ] refl at

none_of_all : {X : Type 0} → (p : Name → Bool) (es : List (Name × X)) (q : Name) (x : X) → find p (map (λ (e : Name × X). e.0) es) ≡ None → fin.find name_cmp q es ≡ Some x → p q ≡ false
none_of_all p [] q x at is = cc
none_of_all p (e ∷ es) q x at is =
    elim (p e.0) as (λ b. p e.0 ≡ b → cond b (Some e.0) (find p (map (λ (e : Name × _). e.0) es)) ≡ None → p q ≡ false) [
      | true ↦ λ b h. cc
      | false ↦ λ b h.
          elim (same_name q e.0) as (λ t. same_name q e.0 ≡ t → cond t (Some e.1) (fin.find name_cmp q es) ≡ Some x → p q ≡ false) [
            | true ↦ λ t i. ap p (from_same q e.0 t) ∙ b
            | false ↦ λ t i. none_of_all p es q x h i
          ] refl is
    ] refl at

passes_at : (p : Name → Bool) (ks : List Name) (k : Name) → find p ks ≡ Some k → p k ≡ true
passes_at p [] k at = cc
passes_at p (n ∷ ks) k at = elim (p n) as (λ b. p n ≡ b → cond b (Some n) (find p ks) ≡ Some k → p k ≡ true) [ true ↦ λ b h. let here : n ≡ k = cc in ap p (sym here) ∙ b | false ↦ λ b h. passes_at p ks k h ] refl at

-- a held name behind the last one is the next one or behind it
pub next-first : {X : Type 0} → (m : Map X) (after : Option Name) (k q : Name) (x : X) → next_name m after ≡ Some k → get m q ≡ Some x → is_behind after q ≡ true → (same_name q k ≡ true) ⊎ (is_gt (name_cmp q k) ≡ true)
next-first m after k q x next at behind = first_of_all (is_behind after) (entries m) k q x (true_of _ (entries_sorted m)) next (sym (get-entries m q) ∙ at) behind

pub next-none : {X : Type 0} → (m : Map X) (after : Option Name) (q : Name) (x : X) → next_name m after ≡ None → get m q ≡ Some x → is_behind after q ≡ false
next-none m after q x next at = none_of_all (is_behind after) (entries m) q x next (sym (get-entries m q) ∙ at)

-- nothing is read at first
pub none_read : {X : Type 0} → (says : Name → Option X) → UpTo says None empty
none_read says q = get-empty name_cmp q

greater : (o : Ordering) → is_gt o ≡ true → o ≡ Greater
greater Less e = cc
greater Equal e = cc
greater Greater e = refl

up : (k a : Name) → is_gt (name_cmp k a) ≡ true → name_cmp a k ≡ Less
up k a e = names_total.antisymm a k ∙ ap ordering_reverse (greater (name_cmp k a) e)

lower : (q a k : Name) (o : Ordering) → name_cmp q a ≡ o → is_gt o ≡ false → is_gt (name_cmp k a) ≡ true → is_gt (name_cmp q k) ≡ false
lower q a k Less at not_behind behind = ap is_gt (names_total.trans q a k at (up k a behind))
lower q a k Equal at not_behind behind = ap is_gt (names_total.congr q a k at ∙ up k a behind)
lower q a k Greater at not_behind behind = cc

before : (after : Option Name) (k q : Name) → is_behind after k ≡ true → is_behind after q ≡ false → is_gt (name_cmp q k) ≡ false
before None k q behind not_behind = cc
before (Some a) k q behind not_behind = lower q a k (name_cmp q a) refl not_behind behind

nothing : {X : Type 0} → (b : Bool) (o : Option X) → o ≡ None → None ≡ cond b None o
nothing true o e = refl
nothing false o e = sym e

-- one name more
pub one_read : {X Y : Type 0} → (d : Map Y) (says : Name → Option X) (after : Option Name) (k : Name) (read : Map X) → ((q : Name) → get d q ≡ None → says q ≡ None) → next_name d after ≡ Some k → UpTo says after read → UpTo says (Some k) (set_to read k (says k))
one_read d says after k read unheld next so_far q =
    get-set_to read k (says k) q
    ∙ elim (same_name q k) as (λ b. same_name q k ≡ b → cond b (says k) (get read q) ≡ cond (is_gt (name_cmp q k)) None (says q)) [
      | true ↦ λ e. let is : q ≡ k = from_same q k e in ap says (sym is) ∙ sym (ap (λ b. cond b None (says q)) (ap (λ (n : Name). is_gt (name_cmp n k)) is ∙ ap is_gt (tied_itself names_total k)))
      | false ↦ λ e. so_far q ∙ elim (is_behind after q) as (λ b. is_behind after q ≡ b → cond b None (says q) ≡ cond (is_gt (name_cmp q k)) None (says q)) [
        | true ↦ λ b. elim (get d q) as (λ o. get d q ≡ o → None ≡ cond (is_gt (name_cmp q k)) None (says q)) [
          | None ↦ λ at. nothing (is_gt (name_cmp q k)) (says q) (unheld q at)
          | Some x ↦ λ at. ⊎_elim (λ is. cc) (λ gt. sym (ap (λ b. cond b None (says q)) gt)) (next-first d after k q x next at b)
        ] refl
        | false ↦ λ b. sym (ap (λ b. cond b None (says q)) (before after k q (passes_at (is_behind after) (keys d) k next) b))
      ] refl
    ] refl

-- at the end
pub all_read : {X Y : Type 0} → (d : Map Y) (says : Name → Option X) (after : Option Name) (read : Map X) → ((q : Name) → get d q ≡ None → says q ≡ None) → next_name d after ≡ None → UpTo says after read → (q : Name) → get read q ≡ says q
all_read d says after read unheld next so_far q =
    so_far q ∙ elim (get d q) as (λ o. get d q ≡ o → cond (is_behind after q) None (says q) ≡ says q) [
      | None ↦ λ at. sym (nothing (is_behind after q) (says q) (unheld q at)) ∙ sym (unheld q at)
      | Some x ↦ λ at. ap (λ b. cond b None (says q)) (next-none d after q x next at)
    ] refl

among_found : (p : Name → Bool) (ks : List Name) (k : Name) → find p ks ≡ Some k → is_among k ks ≡ true
among_found p [] k at = cc
among_found p (n ∷ ks) k at =
    elim (p n) as (λ b. cond b (Some n) (find p ks) ≡ Some k → (same_name k n || is_among k ks) ≡ true) [
      | true ↦ λ h. let here : n ≡ k = cc in ap (λ (m : Name). same_name m n || is_among m ks) (sym here) ∙ ap (λ b. b || is_among n ks) (same_itself n)
      | false ↦ λ h. ap (λ b. same_name k n || b) (among_found p ks k h) ∙ either (same_name k n)
    ] at
  where
    either : (b : Bool) → (b || true) ≡ true
    either true = refl
    either false = refl

-- the next name is held
pub next-held : {X : Type 0} → (m : Map X) (after : Option Name) (k : Name) → next_name m after ≡ Some k → is_some (get m k) ≡ true
next-held m after k next = among-keys m k ∙ among_found (is_behind after) (keys m) k next
