-- What stands at a name of a map.
use Rattle.std.proofs.Common.{◌≡◌, Bool, true, false, cond, T, subst, ◌&&◌, ◌||◌, List, [], ◌∷◌, ◌++◌, map, Option, Some, None, refl, sym, ap, ◌∙◌}
use Rattle.std.specs.Prelude.{option_map, is_some}
use Rattle.std.specs.List.{filter_map}
use Rattle.std.specs.Ordering.{is_eq, is_lt}
use Rattle.std.specs.declared.cmp.Ordering.{Ordering}
use Rattle.std.specs.declared.cmp.Ordering.TheVariants.{Less, Equal, Greater}
use Rattle.std.specs.Cmp.{IsTotalOrder, tied_itself}
use Rattle.std.specs.Cmp.Lexicographic.{nat_list_cmp_total}
use Rattle.std.specs.FinMap.Entries.{below_all}
use Rattle.std.specs.FinMap.{IsAntisymmetric, nat_cmp-IsAntisymmetric, slice_cmp-IsAntisymmetric, get, retain_keys, keys, entries, from_entries, from_sorted, get-from_sorted, find, is_sorted, entries_sorted, entries-from_sorted, get-from_entries, get-insert, get-remove, get-retain_keys, get-entries, contains_key-keys, same_map}
use Rattle.mi_text.specs.Maps.{Name, name_cmp, same_name, Map, set_to, is_among, tabulated, each_name, map_values}

pub names_total : IsTotalOrder name_cmp
names_total = nat_list_cmp_total

pub names_exact : IsAntisymmetric name_cmp
names_exact = slice_cmp-IsAntisymmetric nat_cmp-IsAntisymmetric

level : (o : Ordering) → is_eq o ≡ true → o ≡ Equal
level Less e = cc
level Equal e = refl
level Greater e = cc

pub from_same : (q n : Name) → same_name q n ≡ true → q ≡ n
from_same q n e = names_exact q n (level _ e)

pub same_itself : (q : Name) → same_name q q ≡ true
same_itself q = ap is_eq (tied_itself nat_list_cmp_total q)

-- maps that answer alike are the same
pub same : {X : Type 0} → (m n : Map X) → ((q : Name) → get m q ≡ get n q) → m ≡ n
same m n h = same_map names_total names_exact m n h

pub get-set_to : {X : Type 0} → (m : Map X) (n : Name) (o : Option X) (q : Name) → get (set_to m n o) q ≡ cond (same_name q n) o (get m q)
get-set_to m n None q = get-remove names_total m n q
get-set_to m n (Some x) q = get-insert names_total m n x q

pub get-retained : {X : Type 0} → (m : Map X) (p : Name → Bool) (q : Name) → get (retain_keys m p) q ≡ cond (p q) (get m q) None
get-retained m p q = get-retain_keys m p q (λ x e. ap p (sym (names_exact q x e)))

find_step : {X : Type 0} → (f : Name → Option X) (names : List Name) (n q : Name) (o : Option X) (b : Bool) → f n ≡ o → same_name q n ≡ b
    → find name_cmp q (filter_map (λ k. option_map (λ x. (k, x)) (f k)) names) ≡ cond (is_among q names) (f q) None
    → find name_cmp q (filter_map (λ k. option_map (λ x. (k, x)) (f k)) (n ∷ names)) ≡ cond (b || is_among q names) (f q) None
find_step f names n q None true is e rest =
    let here : f q ≡ None = ap f (from_same q n e) ∙ is in
    rw is (rest ∙ elim (is_among q names) as (λ b. cond b (f q) None ≡ f q) [ true ↦ refl | false ↦ sym here ])
find_step f names n q None false is e rest = rw is rest
find_step f names n q (Some x) true is e rest = rw is (rw e (sym is ∙ sym (ap f (from_same q n e))))
find_step f names n q (Some x) false is e rest = rw is (rw e rest)

find-table : {X : Type 0} → (f : Name → Option X) (names : List Name) (q : Name) → find name_cmp q (filter_map (λ n. option_map (λ x. (n, x)) (f n)) names) ≡ cond (is_among q names) (f q) None
find-table f [] q = refl
find-table f (n ∷ names) q = find_step f names n q (f n) (same_name q n) refl refl (find-table f names q)

pub get-tabulated : {X : Type 0} → (f : Name → Option X) (names : List Name) (q : Name) → get (tabulated f names) q ≡ cond (is_among q names) (f q) None
unfolding tabulated
get-tabulated f names q = get-from_entries names_total _ q ∙ find-table f names q

pub is_among-append : (q : Name) (a b : List Name) → is_among q (a ++ b) ≡ (is_among q a || is_among q b)
is_among-append q [] b = refl
is_among-append q (n ∷ a) b = elim (same_name q n) as (λ t. (t || is_among q (a ++ b)) ≡ ((t || is_among q a) || is_among q b)) [ true ↦ refl | false ↦ is_among-append q a b ]

pub among-keys : {X : Type 0} → (m : Map X) (q : Name) → is_some (get m q) ≡ is_among q (keys m)
among-keys m q = contains_key-keys m q

by_name : {X : Type 0} → (f : Option X → Option X) (o : Option X) (k n : Bool) → is_some o ≡ k → (n ≡ false → f None ≡ None) → cond (k || n) (f o) None ≡ f o
by_name f None true n is h = cc
by_name f None false true is h = refl
by_name f None false false is h = sym (h refl)
by_name f (Some x) true n is h = refl
by_name f (Some x) false n is h = cc

-- each name by itself, where nothing comes at a name that isn't new
pub get-each_name : {X : Type 0} → (m : Map X) (new : List Name) (f : Name → Option X → Option X) (q : Name) → (is_among q new ≡ false → f q None ≡ None) → get (each_name m new f) q ≡ f q (get m q)
get-each_name m new f q h =
    get-tabulated (λ n. f n (get m n)) (keys m ++ new) q
    ∙ ap (λ b. cond b (f q (get m q)) None) (is_among-append q (keys m) new)
    ∙ by_name (f q) (get m q) (is_among q (keys m)) (is_among q new) (among-keys m q) h

find-map : {X Y : Type 0} → (f : X → Y) (es : List (Name × X)) (q : Name) → find name_cmp q (map (λ e. (e.0, f e.1)) es) ≡ option_map f (find name_cmp q es)
find-map f [] q = refl
find-map f (e ∷ es) q = elim (same_name q e.0) as (λ b. cond b (Some (f e.1)) (find name_cmp q (map (λ e. (e.0, f e.1)) es)) ≡ option_map f (cond b (Some e.1) (find name_cmp q es))) [ true ↦ refl | false ↦ find-map f es q ]

below-map : {X Y : Type 0} → (f : X → Y) (k : Name) (es : List (Name × X)) → below_all name_cmp k (map (λ e. (e.0, f e.1)) es) ≡ below_all name_cmp k es
below-map f k [] = refl
below-map f k (e ∷ es) = ap (λ b. is_lt (name_cmp k e.0) && b) (below-map f k es)

sorted-map : {X Y : Type 0} → (f : X → Y) (es : List (Name × X)) → is_sorted name_cmp (map (λ e. (e.0, f e.1)) es) ≡ is_sorted name_cmp es
sorted-map f [] = refl
sorted-map f (e ∷ es) = ap (λ b. b && is_sorted name_cmp (map (λ e. (e.0, f e.1)) es)) (below-map f e.0 es) ∙ ap (λ b. below_all name_cmp e.0 es && b) (sorted-map f es)

mapped_in_order : {X Y : Type 0} → (f : X → Y) (m : Map X) → T (is_sorted name_cmp (map (λ e. (e.0, f e.1)) (entries m)))
mapped_in_order f m = subst T (sym (sorted-map f (entries m))) (entries_sorted m)

pub entries-map_values : {X Y : Type 0} → (f : X → Y) (m : Map X) → entries (map_values f m) ≡ map (λ e. (e.0, f e.1)) (entries m)
entries-map_values f m = entries-from_sorted name_cmp _ (mapped_in_order f m)

same_keys : {X Y : Type 0} → (f : X → Y) (es : List (Name × X)) → map (λ (e : Name × Y). e.0) (map (λ e. (e.0, f e.1)) es) ≡ map (λ e. e.0) es
same_keys f [] = refl
same_keys f (e ∷ es) = ap (λ (ks : List Name). e.0 ∷ ks) (same_keys f es)

pub keys-map_values : {X Y : Type 0} → (f : X → Y) (m : Map X) → keys (map_values f m) ≡ keys m
keys-map_values f m = ap (map (λ (e : Name × _). e.0)) (entries-map_values f m) ∙ same_keys f (entries m)

pub get-map_values : {X Y : Type 0} → (f : X → Y) (m : Map X) (q : Name) → get (map_values f m) q ≡ option_map f (get m q)
get-map_values f m q = get-entries (map_values f m) q ∙ ap (find name_cmp q) (entries-map_values f m) ∙ find-map f (entries m) q ∙ ap (option_map f) (sym (get-entries m q))

-- a list of entries in order is the map's list
pub entries-from_entries : {X : Type 0} → (es : List (Name × X)) → T (is_sorted name_cmp es) → entries (from_entries {R = name_cmp} es) ≡ es
entries-from_entries es sorted = ap entries (same (from_entries es) (from_sorted es) (λ q. get-from_entries names_total es q ∙ sym (get-from_sorted name_cmp es q sorted))) ∙ entries-from_sorted name_cmp es sorted
