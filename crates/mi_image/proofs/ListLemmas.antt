-- The lists of an image are those of its machine.
use Rattle.std.proofs.Common.{◌≡◌, ℕ, suc, ◌+◌, ◌-◌, ◌<◌, ◌≤◌, Bool, true, false, cond, eqb, T, ◌&&◌, ◌||◌, ◌⊎◌, inl, inr, ⊎_elim, List, [], ◌∷◌, ◌++◌, map, drop, length, Option, Some, None, Result, Ok, Err, IfOk, Vec, Bor, refl, sym, ap, subst, ◌∙◌, append_assoc, arith}
use Rattle.std.specs.Prelude.{filter, nat_eq, codes, min, string_bytes}
use Rattle.std.specs.declared.alloc.Global.{Global}
use Rattle.std.specs.Str.{bytes_eq}
use Rattle.std.specs.BTreeMap.{BTreeMap}
use Rattle.std.specs.BTreeMap as tree
use Rattle.std.specs.List.{starts_with, filter_map, cons_option, AllByRecursion}
use Rattle.std.specs.FinMap as fin
use Rattle.std.specs.FinMap.{entries, is_sorted, get-entries, entries_sorted}
use Rattle.std.specs.FinMap.Entries.{below_all}
use Rattle.std.proofs.lemmas.Bool.{eqb-true, leb-true, ltb-true}
use Rattle.std.proofs.lemmas.List.{length-append, map-append}
use Rattle.std.proofs.lemmas.Slice.Eq.{bytes_eq-Decides}
use Rattle.mi_text.specs.Fold.{folded}
use Rattle.mi_text.specs.Guid.{guid_text}
use Rattle.mi_text.specs.Maps.{Name, Map, name_cmp}
use Rattle.mi_text.proofs.ByteLemmas.{both}
use Rattle.mi_text.proofs.MapLemmas.{same_itself, entries-map_values, keys-map_values}
use Rattle.mi_base.specs.declared.entry.Client.{Client}
use Rattle.mi_base.specs.declared.entry.RegValue.{RegValue}
use Rattle.mi_base.specs.declared.entry.ValueKey.{ValueKey}
use Rattle.mi_base.specs.declared.entry.Entry.{Entry}
use Rattle.mi_base.specs.declared.entry.Entry.TheVariants as entry
use Rattle.mi_base.specs.Limits.{fits, is_key}
use Rattle.mi_base.specs.Names.{value_name, client_name, product_name}
use Rattle.mi_base.specs.Machine.{as_client, as_product}
use Rattle.mi_image.specs.declared.item.Item.{Item}
use Rattle.mi_image.specs.declared.item.Item.TheVariants.{Head, Whole}
use Rattle.mi_image.specs.Items.{Items, Boxed, unboxed, items_of, entry_over, machine_over, MayStand, AreRight}
use Rattle.mi_image.specs.Lists.{picked, products_of, clients_of, clients_with, with_component, is_in_keys, value_below, values_under}
use Rattle.mi_image.specs.Fronts.{value_front, begins_within}
use Rattle.mi_image.specs.Picks.{product_in, client_in, client_with, value_in}
use Rattle.mi_image.proofs.ItemLemmas.{Key, key_cmp, pair_of, entries-items}
use Rattle.mi_image.proofs.LookupLemmas.{by_item}
use Rattle.mi_image.proofs.PrefixLemmas.{starts_append, starts_is}
use Rattle.mi_image.proofs.FrontLemmas.{one_length, begins_at_key, begins_below_key}
use Rattle.mi_image.proofs.ScanLemmas.{head_first, apart}

pub true_of : (b : Bool) → T b → b ≡ true
true_of true t = refl
true_of false t = absurd t

-- what holds of what is found in a sorted list holds of each entry
each_found : {X : Type 0} → (P : Name → X → Type 0) (es : List (Name × X)) → is_sorted name_cmp es ≡ true → ((q : Name) (x : X) → fin.find name_cmp q es ≡ Some x → P q x) → AllByRecursion (λ e. P e.0 e.1) es
each_found P [] sorted h = tt
each_found P (e ∷ es) sorted h =
    let parts = both (below_all name_cmp e.0 es) (is_sorted name_cmp es) sorted in (
      h e.0 e.1 (ap (λ (b : Bool). cond b (Some e.1) (fin.find name_cmp e.0 es)) (same_itself e.0)),
      each_found P es parts.1 (λ q x at. h q x (ap (λ (b : Bool). cond b (Some e.1) (fin.find name_cmp q es)) (apart e.0 q (head_first e.0 q es x parts.0 at)) ∙ at)),
    )

pub each_right : (items : Items) → AreRight items → AllByRecursion (λ e. MayStand e.0 e.1) (entries items)
each_right items right = each_found MayStand (entries items) (true_of _ (entries_sorted items)) (λ q i at. right q i (get-entries items q ∙ at))

-- one entry by one: those that pass the test give what is picked of them, and the others nothing
listed : {Y : Type 0} → (p : Name × Item → Bool) (of_item : Item → Option Y) (pick : Entry → Option Y) (over : Item → Entry) (es : List (Name × Item)) → AllByRecursion (λ e. cond (p e) (of_item e.1) None ≡ pick (over e.1)) es
    → filter_map of_item (map (λ (e : Name × Item). e.1) (filter p es)) ≡ filter_map (λ (e : Name × Entry). pick e.1) (map (λ (e : Name × Item). (e.0, over e.1)) es)
listed p of_item pick over [] h = refl
listed {Y} p of_item pick over (e ∷ es) h =
    elim (p e) as (λ b. cond b (of_item e.1) None ≡ pick (over e.1) → filter_map of_item (map (λ (e : Name × Item). e.1) (cond b (e ∷ filter p es) (filter p es))) ≡ cons_option (pick (over e.1)) (filter_map (λ (e : Name × Entry). pick e.1) (map (λ (e : Name × Item). (e.0, over e.1)) es))) [
      | true ↦ λ is. ap (λ (o : Option Y). cons_option o (filter_map of_item (map (λ (e : Name × Item). e.1) (filter p es)))) is ∙ ap (cons_option (pick (over e.1))) (listed p of_item pick over es h.1)
      | false ↦ λ is. ap (λ (o : Option Y). cons_option o (filter_map of_item (map (λ (e : Name × Item). e.1) (filter p es)))) is ∙ ap (cons_option (pick (over e.1))) (listed p of_item pick over es h.1)
    ] h.0

all_of : {X : Type 0} → (P Q : X → Type 0) (xs : List X) → ((x : X) → P x → Q x) → AllByRecursion P xs → AllByRecursion Q xs
all_of P Q [] h all = tt
all_of P Q (x ∷ xs) h all = (h x all.0, all_of P Q xs h all.1)

-- what is found of an image below some bytes is the list of its machine, where nothing else is picked
pub list_is : {Y : Type 0} → (held files : Map (List ℕ)) (items : Items) (p : Name × Item → Bool) (of_item : Item → Option Y) (pick : Entry → Option Y) → AreRight items
    → ((q : Name) (i : Item) → MayStand q i → cond (p (q, i)) (of_item i) None ≡ pick (entry_over held files i))
    → filter_map of_item (map (λ e. e.1) (filter p (entries items))) ≡ picked pick (machine_over held files items)
unfolding machine_over
list_is held files items p of_item pick right picks =
    listed p of_item pick (entry_over held files) (entries items) (all_of (λ e. MayStand e.0 e.1) (λ e. cond (p e) (of_item e.1) None ≡ pick (entry_over held files e.1)) (entries items) (λ e may. picks e.0 e.1 may) (each_right items right))
    ∙ sym (ap (filter_map (λ e. pick e.1)) (entries-map_values (entry_over held files) items))

-- what is picked stands below these bytes, or nothing is
where_begins : {Y : Type 0} → (b : Bool) (o u : Option Y) → o ≡ u → (o ≡ None) ⊎ (b ≡ true) → cond b o None ≡ u
where_begins true o u same either = same
where_begins false o u same (inl none) = sym none ∙ same
where_begins false o u same (inr here) = absurd cc

pub no_other : {Y : Type 0} → (b : Bool) → cond {A = Option Y} b None None ≡ None
no_other true = refl
no_other false = refl

-- ---- products and clients

begins_so : (q name front rest : Name) → name ≡ q → name ≡ front ++ rest → starts_with nat_eq q front ≡ true
begins_so q name front rest named is = ap (λ (n : Name). starts_with nat_eq n front) (sym named ∙ is) ∙ starts_append front rest

product_is : (code : ℕ) → product_name code ≡ codes "p/" ++ guid_text code
unfolding product_name
product_is code = refl

client_is : (component product : ℕ) → client_name component product ≡ codes "c/" ++ guid_text component ++ guid_text product
unfolding client_name
client_is component product = refl

client_kind : (component product : ℕ) → client_name component product ≡ codes "c/" ++ (guid_text component ++ guid_text product)
client_kind component product = client_is component product ∙ append_assoc (codes "c/") (guid_text component) (guid_text product)

product_at : (q : Name) (i : Item) → MayStand q i → (product_in i ≡ None) ⊎ (starts_with nat_eq q (codes "p/") ≡ true)
product_at q (Whole (entry.Product p)) may = inr (begins_so q (product_name p.code.number) (codes "p/") (guid_text p.code.number) may.named (product_is p.code.number))
product_at q (Head h content) may = inl refl
product_at q (Whole (entry.File f)) may = inl refl
product_at q (Whole (entry.Folder t)) may = inl refl
product_at q (Whole (entry.Value k v)) may = inl refl
product_at q (Whole (entry.Key r t)) may = inl refl
product_at q (Whole (entry.Shortcut s)) may = inl refl
product_at q (Whole (entry.Variable v)) may = inl refl
product_at q (Whole (entry.Client c)) may = inl refl
product_at q (Whole (entry.System p t)) may = inl refl

pub products_are : (held files : Map (List ℕ)) (items : Items) → AreRight items → filter_map product_in (map (λ e. e.1) (filter (λ e. starts_with nat_eq e.0 (codes "p/")) (entries items))) ≡ products_of (machine_over held files items)
unfolding products_of
products_are held files items right = list_is held files items (λ e. starts_with nat_eq e.0 (codes "p/")) product_in (λ e. as_product (Some e)) right
    (λ q i may. where_begins (starts_with nat_eq q (codes "p/")) (product_in i) (as_product (Some (entry_over held files i))) (by_item as_product (λ f. refl) held files (Some i)) (product_at q i may))

-- the client of an item
abbrev is_client_at : Name → Item → Type 0
is_client_at q i = (c : Client) → client_in i ≡ Some c → client_name c.component.number c.product.number ≡ q

client_at : (q : Name) (i : Item) → MayStand q i → is_client_at q i
client_at q (Whole (entry.Client d)) may c is = let same : d ≡ c = cc in ap (λ (x : Client). client_name x.component.number x.product.number) (sym same) ∙ may.named
client_at q (Head h content) may c is = absurd cc
client_at q (Whole (entry.File f)) may c is = absurd cc
client_at q (Whole (entry.Folder t)) may c is = absurd cc
client_at q (Whole (entry.Value k v)) may c is = absurd cc
client_at q (Whole (entry.Key r t)) may c is = absurd cc
client_at q (Whole (entry.Shortcut s)) may c is = absurd cc
client_at q (Whole (entry.Variable v)) may c is = absurd cc
client_at q (Whole (entry.Product p)) may c is = absurd cc
client_at q (Whole (entry.System p t)) may c is = absurd cc

pub clients_are : (held files : Map (List ℕ)) (items : Items) → AreRight items → filter_map client_in (map (λ e. e.1) (filter (λ e. starts_with nat_eq e.0 (codes "c/")) (entries items))) ≡ clients_of (machine_over held files items)
unfolding clients_of
clients_are held files items right = list_is held files items (λ e. starts_with nat_eq e.0 (codes "c/")) client_in (λ e. as_client (Some e)) right
    (λ q i may. where_begins (starts_with nat_eq q (codes "c/")) (client_in i) (as_client (Some (entry_over held files i))) (by_item as_client (λ f. refl) held files (Some i)) (by_client q i (client_in i) refl may))
  where
    by_client : (q : Name) (i : Item) (o : Option Client) → client_in i ≡ o → MayStand q i → (client_in i ≡ None) ⊎ (starts_with nat_eq q (codes "c/") ≡ true)
    by_client q i None is may = inl is
    by_client q i (Some c) is may = inr (begins_so q (client_name c.component.number c.product.number) (codes "c/") (guid_text c.component.number ++ guid_text c.product.number) (client_at q i may c is) (client_kind c.component.number c.product.number))

pub clients_with_are : (held files : Map (List ℕ)) (items : Items) (component : ℕ) (front : List ℕ) → front ≡ codes "c/" ++ guid_text component → AreRight items
    → filter_map (client_with component) (map (λ e. e.1) (filter (λ e. starts_with nat_eq e.0 front) (entries items))) ≡ clients_with (machine_over held files items) component
unfolding clients_with
clients_with_are held files items component front is right = list_is held files items (λ e. starts_with nat_eq e.0 front) (client_with component) (λ e. with_component component (as_client (Some e))) right
    (λ q i may. where_begins (starts_with nat_eq q front) (client_with component i) (with_component component (as_client (Some (entry_over held files i)))) (ap (with_component component) (by_item as_client (λ f. refl) held files (Some i))) (by_client q i (client_in i) refl may))
  where
    by_component : (q : Name) (c : Client) → client_name c.component.number c.product.number ≡ q → (b : Bool) → eqb c.component.number component ≡ b → (cond b (Some c) None ≡ None) ⊎ (starts_with nat_eq q front ≡ true)
    by_component q c named true same =
        let number : c.component.number ≡ component = eqb-true c.component.number component same in
        inr (begins_so q (client_name c.component.number c.product.number) front (guid_text c.product.number) named
        (client_is c.component.number c.product.number ∙ ap (λ (n : ℕ). codes "c/" ++ guid_text n ++ guid_text c.product.number) number ∙ ap (λ (f : List ℕ). f ++ guid_text c.product.number) (sym is)))
    by_component q c named false other = inl refl

    by_client : (q : Name) (i : Item) (o : Option Client) → client_in i ≡ o → MayStand q i → (with_component component (client_in i) ≡ None) ⊎ (starts_with nat_eq q front ≡ true)
    by_client q i None none may = inl (ap (with_component component) none)
    by_client q i (Some c) some may = ⊎_elim (λ none. inl (ap (with_component component) some ∙ none)) (λ here. inr here) (by_component q c (client_at q i may c some) (eqb c.component.number component) refl)

-- ---- values

value_root : (k : ValueKey) (v : RegValue) → fits (entry.Value k v) ≡ true → k.root < 4
unfolding fits
value_root k v fit = ltb-true k.root 4 (both _ _ (both _ _ (both _ _ (both _ _ fit).0).0).0).0

value_folded : (k : ValueKey) (v : RegValue) → fits (entry.Value k v) ≡ true → folded k.key ≡ k.key
unfolding fits
value_folded k v fit = (bytes_eq-Decides (folded k.key) k.key).0 (both _ _ (both _ _ (both _ _ fit).0).0).1

pub value_short : (k : ValueKey) (v : RegValue) → fits (entry.Value k v) ≡ true → length k.key ≤ 500
unfolding fits is_key
value_short k v fit = leb-true (length k.key) 500 (both _ _ (both _ _ (both _ _ (both _ _ (both _ _ (both _ _ fit).0).0).0).1).0).0

-- how the name of a value begins, and how it goes on
pub value_begins : (k : ValueKey) (v : RegValue) (q : Name) → MayStand q (Whole (entry.Value k v)) → q ≡ value_front k.root (length k.key) (k.key ++ folded k.shown)
unfolding value_name
value_begins k v q may = sym may.named ∙ ap (λ (key : List ℕ). value_front k.root (length key) (key ++ folded k.shown)) (value_folded k v may.right)

-- the value of a key, or of a key below it, stands at a name that begins so
value_there : (k : ValueKey) (v : RegValue) (q : Name) (key front : List ℕ) → MayStand q (Whole (entry.Value k v)) → front ≡ key ++ 92 ∷ [] → is_in_keys key front k.key ≡ true → begins_within k.root key front (500 - length key) q ≡ true
value_there k v q key front may front_is inside = elim (bytes_eq k.key key) as (λ b. bytes_eq k.key key ≡ b → (b || starts_with nat_eq k.key front) ≡ true → begins_within k.root key front (500 - length key) q ≡ true) [
  | true ↦ λ b h. begins_at_key k.root key front (folded k.shown) (500 - length key) q (value_begins k v q may ∙ ap (λ (own : List ℕ). value_front k.root (length own) (own ++ folded k.shown)) ((bytes_eq-Decides k.key key).0 b))
  | false ↦ λ b h. longer (starts_is k.key front h)
] refl inside
  where
    longer : k.key ≡ front ++ drop (length front) k.key → begins_within k.root key front (500 - length key) q ≡ true
    longer is =
        let size : length k.key ≡ length key + 1 + length (drop (length front) k.key) = ap length is ∙ length-append front (drop (length front) k.key) ∙ ap (λ (n : ℕ). n + length (drop (length front) k.key)) (ap length front_is ∙ length-append key (92 ∷ [])) in
        begins_below_key k.root key front (drop (length front) k.key ++ folded k.shown) (500 - length key) (length (drop (length front) k.key)) (length k.key) q (omega (arith, size)) (omega (arith, size, value_short k v may.right))
        (value_begins k v q may ∙ ap (λ (own : List ℕ). value_front k.root (length k.key) (own ++ folded k.shown)) is ∙ ap (value_front k.root (length k.key)) (append_assoc front (drop (length front) k.key) (folded k.shown)))

pub values_are : (held files : Map (List ℕ)) (items : Items) (root : ℕ) (key fold_key front : List ℕ) → fold_key ≡ folded key → front ≡ fold_key ++ 92 ∷ [] → AreRight items
    → filter_map (value_in root fold_key front) (map (λ e. e.1) (filter (λ e. begins_within (min root 9) fold_key front (500 - length fold_key) e.0) (entries items))) ≡ values_under (machine_over held files items) root key
unfolding values_under
values_are held files items root key fold_key front key_is front_is right = list_is held files items (λ e. begins e.0) (value_in root fold_key front) (value_below root key) right picks
  where
    begins : Name → Bool
    begins q = begins_within (min root 9) fold_key front (500 - length fold_key) q

    same : (i : Item) → value_in root fold_key front i ≡ value_in root (folded key) (folded key ++ 92 ∷ []) i
    same i = ap (λ (k : List ℕ). value_in root k front i) key_is ∙ ap (λ (f : List ℕ). value_in root (folded key) f i) (front_is ∙ ap (λ (k : List ℕ). k ++ 92 ∷ []) key_is)

    by_key : (q : Name) (k : ValueKey) (v : RegValue) → MayStand q (Whole (entry.Value k v)) → min root 9 ≡ k.root → (b : Bool) → is_in_keys fold_key front k.key ≡ b → (cond b (Some k) None ≡ None) ⊎ (begins q ≡ true)
    by_key q k v may low true inside = inr (subst (λ (n : ℕ). begins_within n fold_key front (500 - length fold_key) q ≡ true) (sym low) (value_there k v q fold_key front may front_is inside))
    by_key q k v may low false outside = inl refl

    by_root : (q : Name) (k : ValueKey) (v : RegValue) → MayStand q (Whole (entry.Value k v)) → (b : Bool) → eqb k.root root ≡ b → (cond (b && is_in_keys fold_key front k.key) (Some k) None ≡ None) ⊎ (begins q ≡ true)
    by_root q k v may true is =
        let number : k.root ≡ root = eqb-true k.root root is in
        let low : min root 9 ≡ k.root = omega (arith, number, value_root k v may.right) in
        by_key q k v may low (is_in_keys fold_key front k.key) refl
    by_root q k v may false other = inl refl

    picks : (q : Name) (i : Item) → MayStand q i → cond (begins q) (value_in root fold_key front i) None ≡ value_below root key (entry_over held files i)
    picks q (Whole (entry.Value k v)) may =
        where_begins (begins q) (value_in root fold_key front (Whole (entry.Value k v))) (value_below root key (entry.Value k v)) (same (Whole (entry.Value k v)))
        (by_root q k v may (eqb k.root root) refl)
    picks q (Head h content) may = no_other (begins q)
    picks q (Whole (entry.File f)) may = let clash : false ≡ true = may.split in absurd cc
    picks q (Whole (entry.Folder t)) may = no_other (begins q)
    picks q (Whole (entry.Key r t)) may = no_other (begins q)
    picks q (Whole (entry.Shortcut s)) may = no_other (begins q)
    picks q (Whole (entry.Variable v)) may = no_other (begins q)
    picks q (Whole (entry.Client c)) may = no_other (begins q)
    picks q (Whole (entry.Product p)) may = no_other (begins q)
    picks q (Whole (entry.System p t)) may = no_other (begins q)

-- ---- what is found of a tree

paired : (front : List ℕ) (es : List (Key × Boxed)) → map (λ e. unboxed e.1) (filter (λ e. starts_with nat_eq (string_bytes e.0) front) es) ≡ map (λ e. e.1) (filter (λ e. starts_with nat_eq e.0 front) (map pair_of es))
paired front [] = refl
paired front (e ∷ es) = elim (starts_with nat_eq (string_bytes e.0) front) as (λ b. map (λ e. unboxed e.1) (cond b (e ∷ filter (λ e. starts_with nat_eq (string_bytes e.0) front) es) (filter (λ e. starts_with nat_eq (string_bytes e.0) front) es)) ≡ map (λ e. e.1) (cond b (pair_of e ∷ filter (λ e. starts_with nat_eq e.0 front) (map pair_of es)) (filter (λ e. starts_with nat_eq e.0 front) (map pair_of es)))) [
  | true ↦ ap (λ (is : List Item). unboxed e.1 ∷ is) (paired front es)
  | false ↦ paired front es
]

pub ok_both : {X E : Type 0} → (r : Result X E) (P Q R : X → Type 0) → ((x : X) → P x → Q x → R x) → IfOk r P → IfOk r Q → IfOk r R
ok_both (Ok x) P Q R h p q = h x p q
ok_both (Err e) P Q R h p q = tt

pub found_in : {E : Type 0} → (r : Result (Vec (Bor Item) Global) E) (m : BTreeMap Key Boxed) (image : Items) (front : List ℕ) → items_of m.entries ≡ image
    → IfOk r (λ found. map (λ i. i.now) found.items ≡ map (λ e. unboxed e.1) (filter (λ e. starts_with nat_eq (string_bytes e.0) front) m.entries)) → IfOk r (λ _. tree.IsOrdered key_cmp m)
    → IfOk r (λ found. map (λ i. i.now) found.items ≡ map (λ e. e.1) (filter (λ e. starts_with nat_eq e.0 front) (entries image)))
found_in r m image front is found ordered = ok_both r _ _ _ (λ v at sorted. at ∙ paired front m.entries
    ∙ ap (λ es. map (λ (e : Name × Item). e.1) (filter (λ e. starts_with nat_eq e.0 front) es)) (sym (entries-items m sorted) ∙ ap entries is)) found ordered

named : (front : List ℕ) (es : List (Key × Boxed)) → map (λ e. string_bytes e.0) (filter (λ e. starts_with nat_eq (string_bytes e.0) front) es) ≡ filter (λ q. starts_with nat_eq q front) (map (λ e. e.0) (map pair_of es))
named front [] = refl
named front (e ∷ es) = elim (starts_with nat_eq (string_bytes e.0) front) as (λ b. map (λ e. string_bytes e.0) (cond b (e ∷ filter (λ e. starts_with nat_eq (string_bytes e.0) front) es) (filter (λ e. starts_with nat_eq (string_bytes e.0) front) es)) ≡ cond b (string_bytes e.0 ∷ filter (λ q. starts_with nat_eq q front) (map (λ e. e.0) (map pair_of es))) (filter (λ q. starts_with nat_eq q front) (map (λ e. e.0) (map pair_of es)))) [
  | true ↦ ap (λ (qs : List Name). string_bytes e.0 ∷ qs) (named front es)
  | false ↦ named front es
]

-- the names that are found in a tree are those of the machine
pub names_in : {E : Type 0} → (held files : Map (List ℕ)) (r : Result (Vec (Bor (List ℕ)) Global) E) (m : BTreeMap Key Boxed) (image : Items) (front : List ℕ) → items_of m.entries ≡ image
    → IfOk r (λ found. map (λ n. n.now) found.items ≡ map (λ e. string_bytes e.0) (filter (λ e. starts_with nat_eq (string_bytes e.0) front) m.entries)) → IfOk r (λ _. tree.IsOrdered key_cmp m)
    → IfOk r (λ found. map (λ n. n.now) found.items ≡ filter (λ q. starts_with nat_eq q front) (fin.keys (machine_over held files image)))
unfolding machine_over
names_in held files r m image front is found ordered = ok_both r _ _ _ (λ v at sorted. at ∙ named front m.entries
    ∙ ap (λ (es : List (Name × Item)). filter (λ q. starts_with nat_eq q front) (map (λ e. e.0) es)) (sym (entries-items m sorted) ∙ ap entries is)
    ∙ sym (ap (filter (λ q. starts_with nat_eq q front)) (keys-map_values (entry_over held files) image))) found ordered

-- ---- what is found length by length

none_longer : (image : Items) (root : ℕ) (key front : List ℕ) (n k : ℕ) → n ≡ k → map (λ (e : Name × Item). e.1) (filter (λ (e : Name × Item). begins_within root key front n e.0) (entries image)) ≡ map (λ (e : Name × Item). e.1) (filter (λ (e : Name × Item). begins_within root key front k e.0) (entries image))
none_longer image root key front n k same = ap (λ (m : ℕ). map (λ (e : Name × Item). e.1) (filter (λ (e : Name × Item). begins_within root key front m e.0) (entries image))) same

pub found_at_key : (image : Items) (found : List (Bor Item)) (root : ℕ) (key front name : List ℕ) → name ≡ value_front root (length key) key
    → map (λ i. i.now) found ≡ map (λ e. e.1) (filter (λ e. starts_with nat_eq e.0 name) (entries image)) → map (λ i. i.now) found ≡ map (λ e. e.1) (filter (λ e. begins_within root key front 0 e.0) (entries image))
unfolding begins_within
found_at_key image found root key front name is at = at ∙ ap (λ (f : Name). map (λ (e : Name × Item). e.1) (filter (λ (e : Name × Item). starts_with nat_eq e.0 f) (entries image))) is

pub found_longer : (image : Items) (found new more : List (Bor Item)) (root : ℕ) (key front name : List ℕ) (n size : ℕ) → size ≡ length key + n + 1 → n < 500 - length key → name ≡ value_front root size front
    → map (λ i. i.now) found ≡ map (λ e. e.1) (filter (λ e. begins_within root key front n e.0) (entries image))
    → map (λ i. i.now) more ≡ map (λ e. e.1) (filter (λ e. starts_with nat_eq e.0 name) (entries image)) → new ≡ found ++ more
    → map (λ i. i.now) new ≡ map (λ e. e.1) (filter (λ e. begins_within root key front (n + 1) e.0) (entries image))
found_longer image found new more root key front name n size size_is within name_is so_far at grown =
    let second : Name × Item → Item = λ e. e.1 in
    let shorter : List (Name × Item) = filter (λ e. begins_within root key front n e.0) (entries image) in
    let longer : List (Name × Item) = filter (λ e. starts_with nat_eq e.0 (value_front root size front)) (entries image) in
    let here : map (λ (i : Bor Item). i.now) more ≡ map second longer = at ∙ ap (λ (f : Name). map second (filter (λ (e : Name × Item). starts_with nat_eq e.0 f) (entries image))) name_is in
    ap (map (λ (i : Bor Item). i.now)) grown
    ∙ map-append (λ (i : Bor Item). i.now) found more
    ∙ ap (λ (is : List Item). is ++ map (λ (i : Bor Item). i.now) more) so_far
    ∙ ap (λ (is : List Item). map second shorter ++ is) here
    ∙ sym (map-append second shorter longer)
    ∙ ap (map second) (sym (one_length root key front n size (entries image) (omega (arith, size_is)) (omega (arith, size_is, within)) (true_of _ (entries_sorted image))))
    ∙ none_longer image root key front (suc n) (n + 1) (omega arith)
