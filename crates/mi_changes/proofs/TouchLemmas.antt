-- One touch after the other is each name by itself.
use Rattle.std.proofs.Common.{◌≡◌, Bool, true, false, cond, ◌||◌, List, [], ◌∷◌, ◌++◌, Option, None, refl, sym, ap, ◌∙◌, append_assoc}
use Rattle.std.proofs.lemmas.List.{append-nil}
use Rattle.std.specs.Prelude.{option_map, not}
use Rattle.std.specs.FinMap.{get, retain_keys}
use Rattle.mi_text.specs.Maps.{Name, same_name, Map, set_to, is_among, map_values}
use Rattle.mi_changes.specs.Touches.{Touch, Set, Clear, left_at, names_of, after_touches, touched, by_touch, along}
use Rattle.mi_text.proofs.MapLemmas.{from_same, same, get-set_to, get-retained, get-each_name, get-map_values}

at_name : {X : Type 0} → (b : Bool) (n q : Name) (f : Option X → Option X) (m : Map X) → same_name q n ≡ b → cond b (f (get m n)) (get m q) ≡ cond b (f (get m q)) (get m q)
at_name true n q f m e = ap (λ k. f (get m k)) (sym (from_same q n e))
at_name false n q f m e = refl

turned : {X : Type 0} → (b : Bool) (o : Option X) → cond (not b) o None ≡ cond b None o
turned true o = refl
turned false o = refl

-- what one touch leaves at a name
pub get-touched : {X : Type 0} → (m : Map X) (t : Touch X) (q : Name) → get (touched m t) q ≡ left_at q (t ∷ []) (get m q)
get-touched m (Set n f) q = get-set_to m n (f (get m n)) q ∙ at_name (same_name q n) n q f m refl
get-touched m (Clear p) q = get-retained m (λ k. not (p k)) q ∙ turned (p q) (get m q)

pub left_at-first : {X : Type 0} → (q : Name) (t : Touch X) (ts : List (Touch X)) (o : Option X) → left_at q ts (left_at q (t ∷ []) o) ≡ left_at q (t ∷ ts) o
left_at-first q (Set n f) ts o = refl
left_at-first q (Clear p) ts o = refl

pub left_at-append : {X : Type 0} → (q : Name) (ts us : List (Touch X)) (o : Option X) → left_at q (ts ++ us) o ≡ left_at q us (left_at q ts o)
left_at-append q [] us o = refl
left_at-append q (Set n f ∷ ts) us o = left_at-append q ts us _
left_at-append q (Clear p ∷ ts) us o = left_at-append q ts us _

pub get-by_touch : {X : Type 0} → (m : Map X) (ts : List (Touch X)) (q : Name) → get (by_touch m ts) q ≡ left_at q ts (get m q)
get-by_touch m [] q = refl
get-by_touch m (t ∷ ts) q = get-by_touch (touched m t) ts q ∙ ap (left_at q ts) (get-touched m t q) ∙ left_at-first q t ts (get m q)

step_none : {X : Type 0} → (b : Bool) (q : Name) (x : Option X) (ts : List (Touch X)) → (b || is_among q (names_of ts)) ≡ false → (is_among q (names_of ts) ≡ false → left_at q ts None ≡ None) → left_at q ts (cond b x None) ≡ None
step_none true q x ts e h = cc
step_none false q x ts e h = h e

gone : {X : Type 0} → (b : Bool) (o : Option X) → o ≡ None → cond b None o ≡ None
gone true o e = refl
gone false o e = e

-- nothing comes at a name that no touch names
nothing_comes : {X : Type 0} → (q : Name) (ts : List (Touch X)) → is_among q (names_of ts) ≡ false → left_at q ts None ≡ None
nothing_comes q [] e = refl
nothing_comes q (Set n f ∷ ts) e = step_none (same_name q n) q (f None) ts e (nothing_comes q ts)
nothing_comes q (Clear p ∷ ts) e = ap (left_at q ts) (gone (p q) None refl) ∙ nothing_comes q ts e

pub get-after_touches : {X : Type 0} → (m : Map X) (ts : List (Touch X)) (q : Name) → get (after_touches m ts) q ≡ left_at q ts (get m q)
unfolding after_touches
get-after_touches m ts q = get-each_name m (names_of ts) (λ n old. left_at n ts old) q (nothing_comes q ts)

pub one_by_one : {X : Type 0} → (m : Map X) (ts : List (Touch X)) → by_touch m ts ≡ after_touches m ts
one_by_one m ts = same _ _ (λ q. get-by_touch m ts q ∙ sym (get-after_touches m ts q))

pub by_touch-append : {X : Type 0} → (m : Map X) (ts us : List (Touch X)) → by_touch m (ts ++ us) ≡ by_touch (by_touch m ts) us
by_touch-append m [] us = refl
by_touch-append m (t ∷ ts) us = by_touch-append (touched m t) ts us

-- values changed by themselves, before or after one name is set
pub map_values-set_to : {X Y : Type 0} → (f : X → Y) (m : Map X) (n : Name) (o : Option X) → map_values f (set_to m n o) ≡ set_to (map_values f m) n (option_map f o)
map_values-set_to f m n o = same _ _ (λ q.
    get-map_values f (set_to m n o) q ∙ ap (option_map f) (get-set_to m n o q)
    ∙ pushed f (same_name q n) o (get m q)
    ∙ sym (get-set_to (map_values f m) n (option_map f o) q ∙ ap (cond (same_name q n) (option_map f o)) (get-map_values f m q)))
  where
    pushed : {X Y : Type 0} → (f : X → Y) (b : Bool) (o u : Option X) → option_map f (cond b o u) ≡ cond b (option_map f o) (option_map f u)
    pushed f true o u = refl
    pushed f false o u = refl

pub map_values-retain : {X Y : Type 0} → (f : X → Y) (m : Map X) (p : Name → Bool) → map_values f (retain_keys m p) ≡ retain_keys (map_values f m) p
map_values-retain f m p = same _ _ (λ q.
    get-map_values f (retain_keys m p) q ∙ ap (option_map f) (get-retained m p q)
    ∙ kept f (p q) (get m q)
    ∙ sym (get-retained (map_values f m) p q ∙ ap (λ o. cond (p q) o None) (get-map_values f m q)))
  where
    kept : {X Y : Type 0} → (f : X → Y) (b : Bool) (u : Option X) → option_map f (cond b u None) ≡ cond b (option_map f u) None
    kept f true u = refl
    kept f false u = refl

-- a map behind a function on values is touched where the map is set
pub mirrored : {X Y : Type 0} → (f : X → Y) (m new : Map X) (n : Name) (o : Option X) (a : Option Y → Option Y) → new ≡ set_to m n o → option_map f o ≡ a (get (map_values f m) n)
    → map_values f new ≡ touched (map_values f m) (Set n a)
mirrored f m new n o a is e = ap (map_values f) is ∙ map_values-set_to f m n o ∙ ap (set_to (map_values f m) n) e

-- one row more
pub along_push : {R X : Type 0} → (touches : Map X → R → List (Touch X)) (m : Map X) (rows : List R) (r : R) → along touches m (rows ++ r ∷ []) ≡ along touches m rows ++ touches (by_touch m (along touches m rows)) r
along_push touches m [] r = append-nil (touches m r)
along_push touches m (s ∷ rows) r =
    let n = by_touch m (touches m s) in
    ap (λ ts. touches m s ++ ts) (along_push touches n rows r)
    ∙ sym (append_assoc (touches m s) (along touches n rows) (touches (by_touch n (along touches n rows)) r))
    ∙ ap (λ k. touches m s ++ along touches n rows ++ touches k r) (sym (by_touch-append m (touches m s) (along touches n rows)))
