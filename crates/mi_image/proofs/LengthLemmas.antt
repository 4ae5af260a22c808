-- The least length of a key that is held, from a length on.
use Rattle.std.proofs.Common.{◌≡◌, ℕ, zero, suc, ◌+◌, ◌-◌, ◌<◌, ◌≤◌, Bool, true, false, cond, eqb, List, [], ◌∷◌, ◌++◌, map, drop, length, get_or, Option, Some, None, Bor, refl, sym, ap, subst, ◌∙◌, eq-eqb, arith}
use Rattle.std.specs.Prelude.{filter, nat_eq, not, ◌&&◌, IfSome, IfNone, string_bytes}
use Rattle.std.specs.List.{starts_with}
use Rattle.std.specs.Ordering.{is_le, is_eq, ordering_reverse}
use Rattle.std.specs.declared.cmp.Ordering.{Ordering}
use Rattle.std.specs.declared.cmp.Ordering.TheVariants.{Less, Equal, Greater}
use Rattle.std.specs.BTreeMap.Comparable.{le_lt_trans}
use Rattle.std.specs.BTreeMap.{BTreeMap}
use Rattle.std.specs.BTreeMap as tree
use Rattle.std.specs.FinMap as fin
use Rattle.std.specs.FinMap.{get, entries, is_sorted, get-entries, entries_sorted}
use Rattle.std.specs.FinMap.Entries.{below_all}
use Rattle.std.proofs.lemmas.Bool.{eqb-true}
use Rattle.std.proofs.lemmas.List.{append-nil}
use Rattle.mi_text.specs.Fold.{folded}
use Rattle.mi_text.specs.Maps.{Name, name_cmp, same_name}
use Rattle.mi_text.proofs.ByteLemmas.{both}
use Rattle.mi_text.proofs.MapLemmas.{names_total, names_exact, from_same, same_itself}
use Rattle.mi_base.specs.declared.entry.Entry.TheVariants as entry
use Rattle.mi_base.specs.Names.{value_name}
use Rattle.mi_image.specs.declared.item.Item.{Item}
use Rattle.mi_image.specs.declared.item.Item.TheVariants.{Head, Whole}
use Rattle.mi_image.specs.Items.{Items, Boxed, unboxed, items_of, item_name, MayStand, AreRight}
use Rattle.mi_image.specs.Firsts.{IsFirstOf}
use Rattle.mi_image.specs.Fronts.{value_front, begins_within, NoneBegins}
use Rattle.mi_image.specs.Picks.{key_length}
use Rattle.mi_image.proofs.FrontLemmas.{lengths_up, one_length}
use Rattle.mi_image.proofs.ItemLemmas.{Key, key_cmp, pair_of, entries-items}
use Rattle.mi_image.proofs.ListLemmas.{true_of, found_longer, value_begins, value_short}
use Rattle.mi_image.proofs.LookupLemmas.{letter, first_letter}
use Rattle.mi_image.proofs.PrefixLemmas.{starts_is, starts_append}
use Rattle.mi_image.proofs.ScanLemmas.{head_first, apart}
use Rattle.mi_image.proofs.UnderLemmas.{front_first, between}

-- ---- order of names

le_flip : (a b : Name) → is_le (name_cmp a b) ≡ false → is_le (name_cmp b a) ≡ true
le_flip a b is = by_order (name_cmp a b) refl is
  where
    by_order : (o : Ordering) → name_cmp a b ≡ o → is_le o ≡ false → is_le (name_cmp b a) ≡ true
    by_order Less o is = absurd cc
    by_order Equal o is = absurd cc
    by_order Greater o is = ap is_le (names_total.antisymm b a ∙ ap ordering_reverse o)

le_le : (a b c : Name) → is_le (name_cmp a b) ≡ true → is_le (name_cmp b c) ≡ true → is_le (name_cmp a c) ≡ true
le_le a b c first second = by_order (name_cmp b c) refl second
  where
    by_order : (o : Ordering) → name_cmp b c ≡ o → is_le o ≡ true → is_le (name_cmp a c) ≡ true
    by_order Less o is = ap is_le (le_lt_trans names_total a b c first o)
    by_order Equal o is = subst (λ (n : Name). is_le (name_cmp a n) ≡ true) (names_exact b c o) first
    by_order Greater o is = absurd cc

-- ---- the first name from some bytes on

module _ {X : Type 0} (from : Name) where
  abbrev is_from : Name × X → Bool
  is_from e = is_le (name_cmp from e.0) && not false

  from_true : (q : Name) (x : X) → is_from (q, x) ≡ true → is_le (name_cmp from q) ≡ true
  from_true q x is = (both (is_le (name_cmp from q)) true is).0

  from_false : (q : Name) (x : X) → is_from (q, x) ≡ false → is_le (name_cmp from q) ≡ false
  from_false q x is = elim (is_le (name_cmp from q)) as (λ b. (b && true) ≡ false → b ≡ false) [ true ↦ λ h. absurd cc | false ↦ λ h. refl ] is

  pub none_from : (es : List (Name × X)) → filter is_from es ≡ [] → (q : Name) (x : X) → fin.find name_cmp q es ≡ Some x → is_le (name_cmp from q) ≡ false
  none_from [] none q x at = absurd cc
  none_from (e ∷ es) none q x at = elim (is_from e) as (λ b. is_from e ≡ b → cond b (e ∷ filter is_from es) (filter is_from es) ≡ [] → is_le (name_cmp from q) ≡ false) [
    | true ↦ λ b h. absurd cc
    | false ↦ λ b h. elim (same_name q e.0) as (λ t. same_name q e.0 ≡ t → cond t (Some e.1) (fin.find name_cmp q es) ≡ Some x → is_le (name_cmp from q) ≡ false) [
      | true ↦ λ t here. ap (λ (n : Name). is_le (name_cmp from n)) (from_same q e.0 t) ∙ from_false e.0 e.1 b
      | false ↦ λ t here. none_from es h q x here
    ] refl at
  ] refl none

  -- it stands there, it isn't below these bytes, and each other that isn't either comes behind
  pub record IsFirst (es : List (Name × X)) (p : Name) (i : X) : Type 0 where
    pub there : fin.find name_cmp p es ≡ Some i
    pub low : is_le (name_cmp from p) ≡ true
    pub first : (q : Name) (x : X) → fin.find name_cmp q es ≡ Some x → is_le (name_cmp from q) ≡ true → is_le (name_cmp p q) ≡ true

  pub first_from : (es : List (Name × X)) (p : Name) (i : X) (rest : List (Name × X)) → is_sorted name_cmp es ≡ true → filter is_from es ≡ (p, i) ∷ rest → IsFirst es p i
  first_from [] p i rest sorted is = absurd cc
  first_from (e ∷ es) p i rest sorted is =
      let parts = both (below_all name_cmp e.0 es) (is_sorted name_cmp es) sorted in
      elim (is_from e) as (λ b. is_from e ≡ b → cond b (e ∷ filter is_from es) (filter is_from es) ≡ (p, i) ∷ rest → IsFirst (e ∷ es) p i) [
        | true ↦ λ b h. let here : e ≡ (p, i) = cc in subst (λ (d : Name × X). IsFirst (e ∷ es) d.0 d.1) here (record {
          there = ap (λ t. cond t (Some e.1) (fin.find name_cmp e.0 es)) (same_itself e.0);
          low = from_true e.0 e.1 b;
          first = λ q x at up. elim (same_name q e.0) as (λ t. same_name q e.0 ≡ t → cond t (Some e.1) (fin.find name_cmp q es) ≡ Some x → is_le (name_cmp e.0 q) ≡ true) [
            | true ↦ λ t found. subst (λ (n : Name). is_le (name_cmp e.0 n) ≡ true) (sym (from_same q e.0 t)) (le_itself e.0)
            | false ↦ λ t found. ap is_le (head_first e.0 q es x parts.0 found)
          ] refl at;
        })
        | false ↦ λ b h.
            let r = first_from es p i rest parts.1 h in
            let less = head_first e.0 p es i parts.0 r.there in
            record {
              there = ap (λ t. cond t (Some e.1) (fin.find name_cmp p es)) (apart e.0 p less) ∙ r.there;
              low = r.low;
              first = λ q x at up. elim (same_name q e.0) as (λ t. same_name q e.0 ≡ t → cond t (Some e.1) (fin.find name_cmp q es) ≡ Some x → is_le (name_cmp p q) ≡ true) [
                | true ↦ λ t found. absurd (let clash : true ≡ false = sym up ∙ ap (λ (n : Name). is_le (name_cmp from n)) (from_same q e.0 t) ∙ from_false e.0 e.1 b in cc)
                | false ↦ λ t found. r.first q x found up
              ] refl at;
            }
      ] refl is
    where
      le_itself : (n : Name) → is_le (name_cmp n n) ≡ true
      le_itself n = by_same (name_cmp n n) refl (same_itself n)
        where
          by_same : (o : Ordering) → name_cmp n n ≡ o → is_eq o ≡ true → is_le o ≡ true
          by_same Less o is = refl
          by_same Equal o is = refl
          by_same Greater o is = absurd cc

-- ---- the tree's entries

from_pairs : (from : Name) (es : List (Key × Boxed)) → map pair_of (filter (λ e. is_le (name_cmp from (string_bytes e.0)) && not false) es) ≡ filter (λ e. is_le (name_cmp from e.0) && not false) (map pair_of es)
from_pairs from [] = refl
from_pairs from (e ∷ es) = elim (is_le (name_cmp from (string_bytes e.0)) && true) as (λ b. map pair_of (cond b (e ∷ filter (λ e. is_le (name_cmp from (string_bytes e.0)) && not false) es) (filter (λ e. is_le (name_cmp from (string_bytes e.0)) && not false) es)) ≡ cond b (pair_of e ∷ filter (λ e. is_le (name_cmp from e.0) && not false) (map pair_of es)) (filter (λ e. is_le (name_cmp from e.0) && not false) (map pair_of es))) [
  | true ↦ ap (λ (xs : List (Name × Item)). pair_of e ∷ xs) (from_pairs from es)
  | false ↦ from_pairs from es
]

in_range : (m : BTreeMap Key Boxed) (image : Items) (from : Name) → items_of m.entries ≡ image → tree.IsOrdered key_cmp m → map pair_of (filter (λ e. is_le (name_cmp from (string_bytes e.0)) && not false) m.entries) ≡ filter (λ e. is_le (name_cmp from e.0) && not false) (entries image)
in_range m image from is ordered = from_pairs from m.entries ∙ ap (filter (λ (e : Name × Item). is_le (name_cmp from e.0) && not false)) (sym (entries-items m ordered) ∙ ap entries is)

pub none_in_range : (m : BTreeMap Key Boxed) (image : Items) (from : Name) (range : List (Key × Boxed)) → items_of m.entries ≡ image → tree.IsOrdered key_cmp m → range ≡ filter (λ e. is_le (name_cmp from (string_bytes e.0)) && not false) m.entries → range ≡ []
    → (q : Name) (i : Item) → get image q ≡ Some i → is_le (name_cmp from q) ≡ false
none_in_range m image from range is ordered found none q i at =
    none_from from (entries image) (sym (in_range m image from is ordered) ∙ ap (map pair_of) (sym found ∙ none)) q i (sym (get-entries image q) ∙ at)

pub first_in_range : (m : BTreeMap Key Boxed) (image : Items) (from : Name) (range rest : List (Key × Boxed)) (k : Key) (i : Boxed) → items_of m.entries ≡ image → tree.IsOrdered key_cmp m → range ≡ filter (λ e. is_le (name_cmp from (string_bytes e.0)) && not false) m.entries → range ≡ (k, i) ∷ rest
    → IsFirstOf image from (string_bytes k) (unboxed i)
first_in_range m image from range rest k i is ordered found more =
    let r = first_from from (entries image) (string_bytes k) (unboxed i) (map pair_of rest) (true_of _ (entries_sorted image)) (sym (in_range m image from is ordered) ∙ ap (map pair_of) (sym found ∙ more)) in
    record {
      there = get-entries image (string_bytes k) ∙ r.there;
      low = r.low;
      first = λ q j at up. r.first q j (sym (get-entries image q) ∙ at) up;
    }

-- what holds anyhow holds where there is none
pub as_none : {A : Type 0} → (o : Option A) (P : Type 0) → P → IfNone o P
as_none None P p = p
as_none (Some x) P p = tt

-- ---- the length of a key

-- the names of longer keys come behind
from_le : (root size k : ℕ) (front rest : List ℕ) → size < 10000 → k < 10000 → size ≤ k → is_le (name_cmp (value_front root size front) (value_front root k (front ++ rest))) ≡ true
from_le root size k front rest small_size small_k within = elim (is_le (name_cmp (value_front root size front) (value_front root k (front ++ rest)))) as (λ b. is_le (name_cmp (value_front root size front) (value_front root k (front ++ rest))) ≡ b → b ≡ true) [
  | true ↦ λ b. refl
  | false ↦ λ b.
      let down = lengths_up root k size (front ++ rest) front small_k small_size (le_flip (value_front root size front) (value_front root k (front ++ rest)) b) in
      let same : k ≡ size = omega (arith, down, within) in
      let up : is_le (name_cmp (value_front root size front) (value_front root k (front ++ rest))) ≡ true = ap (λ (n : ℕ). is_le (name_cmp (value_front root size front) (value_front root n (front ++ rest)))) same ∙ front_first (value_front root size front) rest in
      absurd (let clash : true ≡ false = sym up ∙ b in cc)
] refl

value_at : (root n : ℕ) (p : Name) (i : Item) → MayStand p i → key_length root i ≡ Some n → (rest : List ℕ) × (p ≡ value_front root n rest) × (n ≤ 500)
value_at root n p (Whole (entry.Value k v)) may is = by_root (eqb k.root root) refl is
  where
    by_root : (b : Bool) → eqb k.root root ≡ b → cond b (Some (length k.key)) None ≡ Some n → (rest : List ℕ) × (p ≡ value_front root n rest) × (n ≤ 500)
    by_root true same long =
        let size : length k.key ≡ n = cc in
        (k.key ++ folded k.shown, value_begins k v p may ∙ ap (λ (r : ℕ). value_front r (length k.key) (k.key ++ folded k.shown)) (eqb-true k.root root same) ∙ ap (λ (s : ℕ). value_front root s (k.key ++ folded k.shown)) size, subst (λ (s : ℕ). s ≤ 500) size (value_short k v may.right))
    by_root false other long = absurd cc
value_at root n p (Head h content) may is = absurd cc
value_at root n p (Whole (entry.File f)) may is = absurd cc
value_at root n p (Whole (entry.Folder t)) may is = absurd cc
value_at root n p (Whole (entry.Key r t)) may is = absurd cc
value_at root n p (Whole (entry.Shortcut s)) may is = absurd cc
value_at root n p (Whole (entry.Variable v)) may is = absurd cc
value_at root n p (Whole (entry.Client c)) may is = absurd cc
value_at root n p (Whole (entry.Product q)) may is = absurd cc
value_at root n p (Whole (entry.System q t)) may is = absurd cc

neither : (n : ℕ) (o : Option ℕ) → o ≡ Some n → o ≡ None → ⊥
neither n o some none = absurd cc

other : (i : Item) → eqb (letter i) 118 ≡ false → letter i ≡ 118 → ⊥
other i apart is = let clash : true ≡ false = ap (λ (n : ℕ). eqb n 118) (sym is) ∙ apart in absurd cc

-- a name that begins as those of the values of a root is one of these
is_value : (root : ℕ) (p rest : Name) (i : Item) → item_name i ≡ 118 ∷ 47 ∷ (48 + root) ∷ rest → key_length root i ≡ None → ⊥
unfolding value_name
is_value root p rest (Whole (entry.Value k v)) is none =
    let third : 48 + k.root ≡ 48 + root = ap (λ (n : Name). get_or n 2 0) is in
    let same : k.root ≡ root = omega (arith, third) in
    neither (length k.key) (cond (eqb k.root root) (Some (length k.key)) None) (ap (λ (b : Bool). cond b (Some (length k.key)) None) (eq-eqb k.root root same)) none
is_value root p rest (Head h content) is none = other (Head h content) refl (sym (first_letter (Head h content)) ∙ ap (λ (n : Name). get_or n 0 0) is)
is_value root p rest (Whole (entry.File f)) is none = other (Whole (entry.File f)) refl (sym (first_letter (Whole (entry.File f))) ∙ ap (λ (n : Name). get_or n 0 0) is)
is_value root p rest (Whole (entry.Folder t)) is none = other (Whole (entry.Folder t)) refl (sym (first_letter (Whole (entry.Folder t))) ∙ ap (λ (n : Name). get_or n 0 0) is)
is_value root p rest (Whole (entry.Key r t)) is none = other (Whole (entry.Key r t)) refl (sym (first_letter (Whole (entry.Key r t))) ∙ ap (λ (n : Name). get_or n 0 0) is)
is_value root p rest (Whole (entry.Shortcut s)) is none = other (Whole (entry.Shortcut s)) refl (sym (first_letter (Whole (entry.Shortcut s))) ∙ ap (λ (n : Name). get_or n 0 0) is)
is_value root p rest (Whole (entry.Variable v)) is none = other (Whole (entry.Variable v)) refl (sym (first_letter (Whole (entry.Variable v))) ∙ ap (λ (n : Name). get_or n 0 0) is)
is_value root p rest (Whole (entry.Client c)) is none = other (Whole (entry.Client c)) refl (sym (first_letter (Whole (entry.Client c))) ∙ ap (λ (n : Name). get_or n 0 0) is)
is_value root p rest (Whole (entry.Product q)) is none = other (Whole (entry.Product q)) refl (sym (first_letter (Whole (entry.Product q))) ∙ ap (λ (n : Name). get_or n 0 0) is)
is_value root p rest (Whole (entry.System q t)) is none = other (Whole (entry.System q t)) refl (sym (first_letter (Whole (entry.System q t))) ∙ ap (λ (n : Name). get_or n 0 0) is)

-- ---- none between

fails : (p : Name → Bool) (q : Name) → (p q ≡ true → ⊥) → p q ≡ false
fails p q never = elim (p q) as (λ b. p q ≡ b → b ≡ false) [ true ↦ λ b. absurd (never b) | false ↦ λ b. refl ] refl

-- a name of that length isn't below the bytes at which the search began
begins_from : (root size k : ℕ) (front : List ℕ) (q : Name) → size < 10000 → k < 10000 → size ≤ k → starts_with nat_eq q (value_front root k front) ≡ true → is_le (name_cmp (value_front root size front) q) ≡ true
begins_from root size k front q small_size small_k within begins =
    let rest : List ℕ = drop (length (value_front root k front)) q in
    subst (λ (n : Name). is_le (name_cmp (value_front root size front) n) ≡ true) (sym (starts_is q (value_front root k front) begins)) (from_le root size k front rest small_size small_k within)

pub none_behind : (image : Items) (root size k : ℕ) (front from : List ℕ) → from ≡ value_front root size front → size < 10000 → k < 10000 → size ≤ k
    → ((q : Name) (i : Item) → get image q ≡ Some i → is_le (name_cmp from q) ≡ false) → NoneBegins image (value_front root k front)
none_behind image root size k front from from_is small_size small_k within none q i at = fails (λ n. starts_with nat_eq n (value_front root k front)) q
    (λ begins. let up = begins_from root size k front q small_size small_k within begins in
    let clash : true ≡ false = sym up ∙ ap (λ (f : Name). is_le (name_cmp f q)) (sym from_is) ∙ none q i at in absurd cc)

length_is : (image : Items) (root size n : ℕ) (front from p : List ℕ) (i : Item) → from ≡ value_front root size front → size < 10000 → MayStand p i → key_length root i ≡ Some n → is_le (name_cmp from p) ≡ true → (size ≤ n) × (n ≤ 500)
length_is image root size n front from p i from_is small may is up =
    let v = value_at root n p i may is in
    (lengths_up root size n front v.0 small (omega (arith, v.2)) (subst (λ (m : Name). is_le (name_cmp (value_front root size front) m) ≡ true) v.1 (subst (λ (f : Name). is_le (name_cmp f p) ≡ true) from_is up)), v.2)

none_before : (image : Items) (root size n k : ℕ) (front from p : List ℕ) (i : Item) → from ≡ value_front root size front → size < 10000 → MayStand p i → key_length root i ≡ Some n → IsFirstOf image from p i → size ≤ k → k < n → NoneBegins image (value_front root k front)
none_before image root size n k front from p i from_is small may is first within less q j at = fails (λ m. starts_with nat_eq m (value_front root k front)) q
    (λ begins.
    let v = value_at root n p i may is in
    let small_k : k < 10000 = omega (arith, less, v.2) in
    let behind = first.first q j at (ap (λ (f : Name). is_le (name_cmp f q)) from_is ∙ begins_from root size k front q small small_k within begins) in
    let rest : List ℕ = drop (length (value_front root k front)) q in
    let up = lengths_up root n k v.0 (front ++ rest) (omega (arith, v.2)) small_k (subst (λ (m : Name). is_le (name_cmp m (value_front root k (front ++ rest))) ≡ true) v.1 (subst (λ (m : Name). is_le (name_cmp p m) ≡ true) (starts_is q (value_front root k front) begins) behind)) in
    omega (arith, up, less))

none_at_all : (image : Items) (root size k : ℕ) (front from p : List ℕ) (i : Item) → from ≡ value_front root size front → size < 10000 → MayStand p i → key_length root i ≡ None → IsFirstOf image from p i → size ≤ k → k < 10000 → NoneBegins image (value_front root k front)
none_at_all image root size k front from p i from_is small may is first within small_k q j at = fails (λ m. starts_with nat_eq m (value_front root k front)) q
    (λ begins.
    let kind : Name = 118 ∷ 47 ∷ (48 + root) ∷ [] in
    let low : is_le (name_cmp kind p) ≡ true = le_le kind (value_front root size front) p (front_first kind (drop 3 (value_front root size front))) (ap (λ (f : Name). is_le (name_cmp f p)) (sym from_is) ∙ first.low) in
    let behind = first.first q j at (ap (λ (f : Name). is_le (name_cmp f q)) from_is ∙ begins_from root size k front q small small_k within begins) in
    let rest : Name = drop 3 (value_front root k front ++ drop (length (value_front root k front)) q) in
    is_value root p (drop 3 p) i (may.named ∙ starts_is p kind (by_order kind p q rest low (name_cmp p q) refl behind (starts_is q (value_front root k front) begins))) is)
  where
    by_order : (kind p q rest : Name) → is_le (name_cmp kind p) ≡ true → (o : Ordering) → name_cmp p q ≡ o → is_le o ≡ true → q ≡ kind ++ rest → starts_with nat_eq p kind ≡ true
    by_order kind p q rest low Less o up q_is = between kind p rest low (ap (name_cmp p) (sym q_is) ∙ o)
    by_order kind p q rest low Equal o up q_is = ap (λ (n : Name). starts_with nat_eq n kind) (names_exact p q o ∙ q_is) ∙ starts_append kind rest
    by_order kind p q rest low Greater o up q_is = absurd cc

-- what the first name tells: the next length, and that none is held before it
pub next_is : (image : Items) (root size : ℕ) (front from p : List ℕ) (i : Item) (o : Option ℕ) → o ≡ key_length root i → from ≡ value_front root size front → size < 10000 → AreRight image → IsFirstOf image from p i
    → IfSome o (λ n. (size ≤ n) × (n ≤ 500))
next_is image root size front from p i None is from_is small right first = tt
next_is image root size front from p i (Some n) is from_is small right first = length_is image root size n front from p i from_is small (right p i first.there) (sym is) first.low

pub none_till : (image : Items) (root size k : ℕ) (front from p : List ℕ) (i : Item) (o : Option ℕ) → o ≡ key_length root i → from ≡ value_front root size front → size < 10000 → AreRight image → IsFirstOf image from p i → size ≤ k → k < 10000 → IfSome o (λ n. k < n)
    → NoneBegins image (value_front root k front)
none_till image root size k front from p i None is from_is small right first within small_k till = none_at_all image root size k front from p i from_is small (right p i first.there) (sym is) first within small_k
none_till image root size k front from p i (Some n) is from_is small right first within small_k till = none_before image root size n k front from p i from_is small (right p i first.there) (sym is) first within till

-- ---- lengths at which nothing is held add nothing

none_pass : {X : Type 0} → (p : Name → Bool) (es : List (Name × X)) → is_sorted name_cmp es ≡ true → ((q : Name) (x : X) → fin.find name_cmp q es ≡ Some x → p q ≡ false) → filter (λ e. p e.0) es ≡ []
none_pass p [] sorted none = refl
none_pass p (e ∷ es) sorted none =
    let parts = both (below_all name_cmp e.0 es) (is_sorted name_cmp es) sorted in
    let here : p e.0 ≡ false = none e.0 e.1 (ap (λ t. cond t (Some e.1) (fin.find name_cmp e.0 es)) (same_itself e.0)) in
    rw here (none_pass p es parts.1 (λ q x at. none q x (ap (λ t. cond t (Some e.1) (fin.find name_cmp q es)) (apart e.0 q (head_first e.0 q es x parts.0 at)) ∙ at)))

pub none_held : (image : Items) (front : Name) → NoneBegins image front → filter (λ e. starts_with nat_eq e.0 front) (entries image) ≡ []
none_held image front none = none_pass (λ q. starts_with nat_eq q front) (entries image) (true_of _ (entries_sorted image)) (λ q i at. none q i (get-entries image q ∙ at))

abbrev within : Items → ℕ → List ℕ → List ℕ → ℕ → List (Name × Item)
within image root key front n = filter (λ e. begins_within root key front n e.0) (entries image)

-- nothing more is found at some lengths
skipped : (image : Items) (root : ℕ) (key front : List ℕ) (n more : ℕ) → length key + n + more < 10000 → ((k : ℕ) → length key + n < k → k ≤ length key + n + more → NoneBegins image (value_front root k front)) → within image root key front (n + more) ≡ within image root key front n
skipped image root key front n zero small none = ap (λ (m : ℕ). within image root key front m) (let e : n + 0 ≡ n = omega arith in e)
skipped image root key front n (suc more) small none =
    ap (λ (m : ℕ). within image root key front m) (let e : n + suc more ≡ suc (n + more) = omega arith in e)
    ∙ one_length root key front (n + more) (length key + suc (n + more)) (entries image) refl (omega (arith, small)) (true_of _ (entries_sorted image))
    ∙ ap (λ (xs : List (Name × Item)). within image root key front (n + more) ++ xs) (none_held image (value_front root (length key + suc (n + more)) front) (none (length key + suc (n + more)) (omega arith) (omega arith)))
    ∙ append-nil (within image root key front (n + more))
    ∙ skipped image root key front n more (omega (arith, small)) (λ k low high. none k low (omega (arith, high)))

-- what is found up to a length
abbrev IsFound : Items → List (Bor Item) → ℕ → List ℕ → List ℕ → ℕ → Type 0
IsFound image found root key front n = map (λ i. i.now) found ≡ map (λ e. e.1) (within image root key front n)

pub found_same : (image : Items) (found : List (Bor Item)) (root : ℕ) (key front : List ℕ) (n m : ℕ) → n ≡ m → IsFound image found root key front n → IsFound image found root key front m
found_same image found root key front n m same so_far = subst (IsFound image found root key front) same so_far

-- is found up to a greater one, where nothing is held between
found_up_to : (image : Items) (found : List (Bor Item)) (root : ℕ) (key front : List ℕ) (n m : ℕ) → n ≤ m → length key + m < 10000 → ((k : ℕ) → length key + n < k → k ≤ length key + m → NoneBegins image (value_front root k front)) → IsFound image found root key front n → IsFound image found root key front m
found_up_to image found root key front n m up small none so_far =
    let sum : n + (m - n) ≡ m = omega (arith, up) in
    so_far ∙ ap (map (λ (e : Name × Item). e.1)) (sym (skipped image root key front n (m - n) (omega (arith, up, small)) (λ k low high. none k low (omega (arith, high, up)))) ∙ ap (λ (k : ℕ). within image root key front k) sum)

-- the next length that is held
pub next_found : (image : Items) (found new more : List (Bor Item)) (root : ℕ) (key front name : List ℕ) (last size : ℕ) (next : Option ℕ) → next ≡ Some size → length key ≤ last → IfSome next (λ n. (last + 1 ≤ n) × (n ≤ 500)) → name ≡ value_front root size front
    → ((k : ℕ) → last + 1 ≤ k → k < 10000 → IfSome next (λ n. k < n) → NoneBegins image (value_front root k front)) → IsFound image found root key front (last - length key)
    → map (λ i. i.now) more ≡ map (λ e. e.1) (filter (λ e. starts_with nat_eq e.0 name) (entries image)) → new ≡ found ++ more → IsFound image new root key front (size - length key)
next_found image found new more root key front name last size None is low within name_is none so_far at grown = absurd cc
next_found image found new more root key front name last size (Some next) is low within name_is none so_far at grown =
    let same : next ≡ size = cc in
    let one : last + 1 ≤ size = omega (arith, same, within.0) in
    let most : size ≤ 500 = omega (arith, same, within.1) in
    let before = found_up_to image found root key front (last - length key) (size - 1 - length key) (omega (arith, low, one)) (omega (arith, low, one, most))
    (λ k up down. none k (omega (arith, low, up)) (omega (arith, low, one, most, down)) (omega (arith, low, one, same, down))) so_far in
    found_same image new root key front (size - 1 - length key + 1) (size - length key) (omega (arith, low, one))
    (found_longer image found new more root key front name (size - 1 - length key) size (omega (arith, low, one)) (omega (arith, low, one, most)) name_is before at grown)

-- no other is
pub all_found : (image : Items) (found : List (Bor Item)) (root : ℕ) (key front : List ℕ) (last : ℕ) (next : Option ℕ) → next ≡ None → length key ≤ last → last ≤ 500
    → ((k : ℕ) → last + 1 ≤ k → k < 10000 → IfSome next (λ n. k < n) → NoneBegins image (value_front root k front)) → IsFound image found root key front (last - length key) → IsFound image found root key front (500 - length key)
all_found image found root key front last None is low high none so_far =
    found_up_to image found root key front (last - length key) (500 - length key) (omega (arith, low, high)) (omega (arith, low, high)) (λ k up down. none k (omega (arith, low, up)) (omega (arith, low, high, down)) tt) so_far
all_found image found root key front last (Some next) is low high none so_far = absurd cc

pub least_is : (next : Option ℕ) (size last : ℕ) → next ≡ Some size → IfSome next (λ n. (last + 1 ≤ n) × (n ≤ 500)) → last + 1 ≤ size
least_is None size last is within = absurd cc
least_is (Some next) size last is within = let same : next ≡ size = cc in omega (arith, same, within.0)

pub most_is : (next : Option ℕ) (size last : ℕ) → next ≡ Some size → IfSome next (λ n. (last + 1 ≤ n) × (n ≤ 500)) → size ≤ 500
most_is None size last is within = absurd cc
most_is (Some next) size last is within = let same : next ≡ size = cc in omega (arith, same, within.1)
