-- The changes of touches make the map that the touches make.
use Rattle.std.proofs.Common.{◌≡◌, Bool, true, false, cond, ◌||◌, List, [], ◌∷◌, ◌++◌, map, filter, Option, Some, None, refl, sym, ap, ◌∙◌, append_assoc}
use Rattle.std.specs.Prelude.{not, is_some}
use Rattle.std.specs.FinMap.{get, keys}
use Rattle.mi_text.specs.Maps.{Name, same_name, Map, set_to, is_among}
use Rattle.mi_changes.specs.Touches.{Touch, Set, Clear, touched, by_touch}
use Rattle.mi_changes.specs.Changes.{Change, written, gone, changes_of, changes, spelled_all}
use Rattle.mi_text.proofs.MapLemmas.{from_same, same, get-set_to, get-retained, among-keys}

pub written-append : {X : Type 0} → (m : Map X) (a b : List (Change X)) → written m (a ++ b) ≡ written (written m a) b
written-append m [] b = refl
written-append m (c ∷ a) b = written-append (set_to m c.at c.after) a b

taken : {X : Type 0} → (m : Map X) (names : List Name) (q : Name) → get (written m (map gone names)) q ≡ cond (is_among q names) None (get m q)
taken m [] q = refl
taken m (n ∷ names) q =
    taken (set_to m n None) names q ∙ ap (cond (is_among q names) None) (get-set_to m n None q)
    ∙ joined (is_among q names) (same_name q n) (get m q)
  where
    joined : {X : Type 0} (a b : Bool) (o : Option X) → cond a None (cond b None o) ≡ cond (b || a) None o
    joined true true o = refl
    joined true false o = refl
    joined false true o = refl
    joined false false o = refl

among-filter : (p : Name → Bool) (q : Name) (names : List Name) → is_among q (filter p names) ≡ cond (p q) (is_among q names) false
among-filter p q [] = elim (p q) as (λ b. false ≡ cond b false false) [ true ↦ refl | false ↦ refl ]
among-filter p q (n ∷ names) =
    elim (p n) as (λ b. p n ≡ b → is_among q (cond b (n ∷ filter p names) (filter p names)) ≡ cond (p q) (same_name q n || is_among q names) false) [
      | true ↦ λ e. kept (same_name q n) (p q) (is_among q (filter p names)) (is_among q names) (among-filter p q names) (λ is. ap p (from_same q n is) ∙ e)
      | false ↦ λ e. dropped (same_name q n) (p q) (is_among q (filter p names)) (is_among q names) (among-filter p q names) (λ is. ap p (from_same q n is) ∙ e)
    ] refl
  where
    kept : (is pq rest all : Bool) → rest ≡ cond pq all false → (is ≡ true → pq ≡ true) → (is || rest) ≡ cond pq (is || all) false
    kept true pq rest all r h = ap (λ (b : Bool). cond b true false) (sym (h refl))
    kept false pq rest all r h = r

    dropped : (is pq rest all : Bool) → rest ≡ cond pq all false → (is ≡ true → pq ≡ false) → rest ≡ cond pq (is || all) false
    dropped true pq rest all r h = r ∙ ap (λ (b : Bool). cond b all false) (h refl) ∙ ap (λ (b : Bool). cond b true false) (sym (h refl))
    dropped false pq rest all r h = r

made_by_one : {X : Type 0} → (m : Map X) (t : Touch X) → written m (changes_of m t) ≡ touched m t
made_by_one m (Set n f) = refl
made_by_one m (Clear p) = same _ _ (λ q.
    taken m (filter p (keys m)) q
    ∙ ap (λ (b : Bool). cond b None (get m q)) (among-filter p q (keys m) ∙ ap (λ (b : Bool). cond (p q) b false) (sym (among-keys m q)))
    ∙ held (p q) (get m q)
    ∙ sym (get-retained m (λ k. not (p k)) q))
  where
    held : {X : Type 0} (b : Bool) (o : Option X) → cond (cond b (is_some o) false) None o ≡ cond (not b) o None
    held true None = refl
    held true (Some x) = refl
    held false o = refl

-- the changes make what the touches make
pub written-changes : {X : Type 0} → (m : Map X) (ts : List (Touch X)) → written m (changes m ts) ≡ by_touch m ts
written-changes m [] = refl
written-changes m (t ∷ ts) =
    written-append m (changes_of m t) (changes (touched m t) ts)
    ∙ ap (λ n. written n (changes (touched m t) ts)) (made_by_one m t)
    ∙ written-changes (touched m t) ts

pub changes-append : {X : Type 0} → (m : Map X) (ts us : List (Touch X)) → changes m (ts ++ us) ≡ changes m ts ++ changes (by_touch m ts) us
changes-append m [] us = refl
changes-append m (t ∷ ts) us = ap (λ cs. changes_of m t ++ cs) (changes-append (touched m t) ts us) ∙ sym (append_assoc (changes_of m t) _ _)

pub spelled_all-append : {X Y : Type 0} → (spelled : Map Y → Change X → List (Change Y)) (d : Map Y) (a b : List (Change X)) → spelled_all spelled d (a ++ b) ≡ spelled_all spelled d a ++ spelled_all spelled (written d (spelled_all spelled d a)) b
spelled_all-append spelled d [] b = refl
spelled_all-append spelled d (c ∷ a) b =
    let e = written d (spelled d c) in
    ap (λ cs. spelled d c ++ cs) (spelled_all-append spelled e a b)
    ∙ sym (append_assoc (spelled d c) (spelled_all spelled e a) (spelled_all spelled (written e (spelled_all spelled e a)) b))
    ∙ ap (λ n. spelled d c ++ spelled_all spelled e a ++ spelled_all spelled n b) (sym (written-append d (spelled d c) (spelled_all spelled e a)))

-- where each change is spelled by one, this is a map over the list
pub spelled_all-map : {X Y : Type 0} → (f : Change X → Change Y) (d : Map Y) (cs : List (Change X)) → spelled_all (λ d c. f c ∷ []) d cs ≡ map f cs
spelled_all-map f d [] = refl
spelled_all-map f d (c ∷ cs) = ap (λ (rest : List (Change _)). f c ∷ rest) (spelled_all-map f (written d (f c ∷ [])) cs)
