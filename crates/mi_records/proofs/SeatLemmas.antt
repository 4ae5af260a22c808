-- The places of the names of a machine in the tree of keys.
use Rattle.std.proofs.Common.{◌≡◌, ℕ, ◌<◌, ◌/◌, ◌%◌, Bool, true, false, cond, eqb, ◌&&◌, ◌||◌, List, [], ◌∷◌, ◌++◌, map, take, length, Option, Some, None, refl, sym, ap, subst, ◌∙◌, eq-eqb, arith}
use Rattle.std.specs.Prelude.{filter, nat_eq, option_map}
use Rattle.std.specs.List.{starts_with, filter_map, cons_option, AllByRecursion}
use Rattle.std.specs.Str.{bytes_eq}
use Rattle.std.specs.FinMap.{entries}
use Rattle.std.proofs.Math.Seq.{take-append_seam}
use Rattle.std.proofs.lemmas.Bool.{eqb-true}
use Rattle.mi_text.specs.Fold.{folded}
use Rattle.mi_text.specs.Guid.{guid_text}
use Rattle.mi_text.specs.Maps.{Name, Map}
use Rattle.mi_text.proofs.MapLemmas.{entries-map_values}
use Rattle.mi_base.specs.declared.entry.Entry.{Entry}
use Rattle.mi_base.specs.declared.entry.Entry.TheVariants as entry
use Rattle.mi_base.specs.Limits.{fits}
use Rattle.mi_base.specs.Names.{digit, four_digits, file_name, folder_name, key_name, value_name, shortcut_name, variable_name, client_name, product_name, system_name}
use Rattle.mi_base.specs.Records.{number_of}
use Rattle.mi_base.specs.Spelling.{name_of}
use Rattle.mi_base.proofs.FoldLemmas.{length-folded}
use Rattle.mi_image.specs.declared.item.Item.{Item}
use Rattle.mi_image.specs.declared.item.Item.TheVariants.{Head, Whole}
use Rattle.mi_image.specs.Items.{Items, entry_over, machine_over, MayStand, AreRight}
use Rattle.mi_image.specs.Lists.{is_in_keys}
use Rattle.mi_image.proofs.ListLemmas.{each_right, value_short}
use Rattle.mi_model.specs.Prune.{Seat, Holder, Leaf, Apart, key_in, key_place, key_seat}

-- ---- what a name is in the tree

apart_kind : (a b : ℕ) (rest : List ℕ) → nat_eq a 107 ≡ false → nat_eq a 118 ≡ false → key_seat (a ∷ b ∷ rest) ≡ Apart
apart_kind a b [] k v = refl
apart_kind a b (c ∷ rest) k v =
    ap (λ t. cond t (Holder (c ∷ rest ++ 92 ∷ [])) (cond (nat_eq a 118) (Leaf (c ∷ key_in rest ++ 92 ∷ [])) Apart)) k
    ∙ ap (λ t. cond t (Leaf (c ∷ key_in rest ++ 92 ∷ [])) Apart) v

number_back : (n : ℕ) → n < 10000 → number_of (digit (n / 1000 % 10)) (digit (n / 100 % 10)) (digit (n / 10 % 10)) (digit (n % 10)) ≡ n
number_back n small = omega arith

-- the key in a value's name
key_back : (key rest : List ℕ) → length key < 10000 → key_in (four_digits (length key) ++ key ++ rest) ≡ key
key_back key rest small = ap (λ n. take n (key ++ rest)) (number_back (length key) small) ∙ take-append_seam key rest

-- the seat of what an entry is
abbrev pub seat_of : Entry → Seat
seat_of (entry.Value k v) = Leaf (key_place k.root k.key)
seat_of (entry.Key root shown) = Holder (key_place root shown)
seat_of other = Apart

pub seat_named : (e : Entry) → fits e ≡ true → key_seat (name_of e) ≡ seat_of e
unfolding file_name folder_name key_name value_name shortcut_name variable_name client_name product_name system_name
seat_named (entry.File f) fit = apart_kind 102 47 (folded f.shown) refl refl
seat_named (entry.Folder t) fit = apart_kind 100 47 (folded t) refl refl
seat_named (entry.Value k v) fit = ap (λ (key : List ℕ). Leaf (digit k.root ∷ key ++ 92 ∷ [])) (key_back (folded k.key) (folded k.shown) (let short = value_short k v fit in let same = length-folded k.key in omega arith))
seat_named (entry.Key r t) fit = refl
seat_named (entry.Shortcut s) fit = apart_kind 115 47 (folded s.shown) refl refl
seat_named (entry.Variable v) fit = refl
seat_named (entry.Client c) fit = apart_kind 99 47 (guid_text c.component.number ++ guid_text c.product.number) refl refl
seat_named (entry.Product p) fit = apart_kind 112 47 (guid_text p.code.number) refl refl
seat_named (entry.System p t) fit = apart_kind 121 47 p refl refl

-- ---- a place within another one

eqb_turned : (a b : ℕ) → eqb a b ≡ eqb b a
eqb_turned a b = elim (eqb b a) as (λ t. eqb b a ≡ t → eqb a b ≡ t) [
  | true ↦ λ is. eq-eqb a b (sym (eqb-true b a is))
  | false ↦ λ is. elim (eqb a b) as (λ t. eqb a b ≡ t → t ≡ false) [
    | true ↦ λ same. let clash : true ≡ false = sym (eq-eqb b a (sym (eqb-true a b same))) ∙ is in cc
    | false ↦ λ other. refl
  ] refl
] refl

pub and_none : (a : Bool) → (a && false) ≡ false
and_none true = refl
and_none false = refl

pub or_none : (a : Bool) → (a || false) ≡ a
or_none true = refl
or_none false = refl

spread : (a b c : Bool) → (a && (b || c)) ≡ ((a && b) || (a && c))
spread true b c = refl
spread false b c = refl

-- a key that ends with a backslash begins so where it is the key, or begins with it and a backslash
pub ends_within : (own key : List ℕ) → starts_with nat_eq (own ++ 92 ∷ []) (key ++ 92 ∷ []) ≡ (bytes_eq own key || starts_with nat_eq own (key ++ 92 ∷ []))
ends_within [] [] = refl
ends_within [] (x ∷ []) = and_none (nat_eq x 92)
ends_within [] (x ∷ y ∷ key) = and_none (nat_eq x 92)
ends_within (y ∷ []) [] = refl
ends_within (y ∷ z ∷ own) [] = refl
ends_within (y ∷ own) (x ∷ key) =
    ap (λ t. nat_eq x y && t) (ends_within own key)
    ∙ spread (nat_eq x y) (bytes_eq own key) (starts_with nat_eq own (key ++ 92 ∷ []))
    ∙ ap (λ t. (t && bytes_eq own key) || (nat_eq x y && starts_with nat_eq own (key ++ 92 ∷ []))) (eqb_turned x y)

same_digit : (root r : ℕ) → nat_eq (digit root) (digit r) ≡ eqb r root
same_digit root r = elim (eqb r root) as (λ t. eqb r root ≡ t → nat_eq (digit root) (digit r) ≡ t) [
  | true ↦ λ is. let same : digit root ≡ digit r = ap digit (sym (eqb-true r root is)) in eq-eqb (digit root) (digit r) same
  | false ↦ λ is. elim (nat_eq (digit root) (digit r)) as (λ t. nat_eq (digit root) (digit r) ≡ t → t ≡ false) [
    | true ↦ λ at. let equal = eqb-true (digit root) (digit r) at in let same : r ≡ root = omega (arith, equal) in let clash : true ≡ false = sym (eq-eqb r root same) ∙ is in cc
    | false ↦ λ other. refl
  ] refl
] refl

pub place_within : (root r : ℕ) (key own : List ℕ) → starts_with nat_eq (key_place r own) (key_place root key) ≡ (eqb r root && is_in_keys (folded key) (folded key ++ 92 ∷ []) (folded own))
place_within root r key own =
    ap (λ t. t && starts_with nat_eq (folded own ++ 92 ∷ []) (folded key ++ 92 ∷ [])) (same_digit root r)
    ∙ ap (λ t. eqb r root && t) (ends_within (folded own) (folded key))

-- ---- what stands in a machine

pub record Stands (q : Name) (e : Entry) : Type 0 where
  pub named : name_of e ≡ q
  pub right : fits e ≡ true

stands_over : (held files : Map (List ℕ)) (q : Name) (i : Item) → MayStand q i → Stands q (entry_over held files i)
unfolding fits
stands_over held files q (Whole e) may = record { named = may.named; right = may.right }
stands_over held files q (Head h content) may = record { named = may.named; right = may.right }

pub each_stands : (held files : Map (List ℕ)) (items : Items) → AreRight items → AllByRecursion (λ e. Stands e.0 e.1) (entries (machine_over held files items))
unfolding machine_over
each_stands held files items right = subst (λ (es : List (Name × Entry)). AllByRecursion (λ e. Stands e.0 e.1) es) (sym (entries-map_values (entry_over held files) items)) (over (entries items) (each_right items right))
  where
    over : (es : List (Name × Item)) → AllByRecursion (λ e. MayStand e.0 e.1) es → AllByRecursion (λ (e : Name × Entry). Stands e.0 e.1) (map (λ (e : Name × Item). (e.0, entry_over held files e.1)) es)
    over [] all = tt
    over (e ∷ es) all = (stands_over held files e.0 e.1 all.0, over es all.1)

pub seat_at : (q : Name) (e : Entry) → Stands q e → key_seat q ≡ seat_of e
seat_at q e stands = ap key_seat (sym stands.named) ∙ seat_named e stands.right

-- ---- names that are told of what is picked

told : {A : Type 0} (tell : A → Name) (o : Option A) (xs : List A) → map tell (cons_option o xs) ≡ cons_option (option_map tell o) (map tell xs)
told tell None xs = refl
told tell (Some x) xs = refl

kept_by : (b : Bool) (q : Name) (qs : List Name) → cons_option (cond b (Some q) None) qs ≡ cond b (q ∷ qs) qs
kept_by true q qs = refl
kept_by false q qs = refl

pub names_told : {A : Type 0} (pick : Entry → Option A) (tell : A → Name) (test : Name → Bool) (es : List (Name × Entry)) → ((q : Name) (e : Entry) → Stands q e → option_map tell (pick e) ≡ cond (test q) (Some q) None)
    → AllByRecursion (λ e. Stands e.0 e.1) es → map tell (filter_map (λ e. pick e.1) es) ≡ filter test (map (λ e. e.0) es)
names_told pick tell test [] each all = refl
names_told {A} pick tell test (e ∷ es) each all =
    told tell (pick e.1) (filter_map (λ (e : Name × Entry). pick e.1) es)
    ∙ ap (λ (o : Option Name). cons_option o (map tell (filter_map (λ (e : Name × Entry). pick e.1) es))) (each e.0 e.1 all.0)
    ∙ ap (λ (qs : List Name). cons_option (cond (test e.0) (Some e.0) None) qs) (names_told pick tell test es each all.1)
    ∙ kept_by (test e.0) e.0 (filter test (map (λ (e : Name × Entry). e.0) es))
