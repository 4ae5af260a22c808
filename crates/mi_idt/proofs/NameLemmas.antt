-- Names and their places.
use Rattle.std.proofs.Common.{◌≡◌, ℕ, zero, suc, ◌+◌, ◌<◌, ◌≤◌, Bool, true, false, List, [], ◌∷◌, ◌++◌, length, map, take, drop, get_or, cond, eqb, Option, Some, None, is_some, option_map, nat_cmp, refl, sym, ap, ◌∙◌, arith, inl, inr, Bor}
use Rattle.std.specs.BTreeMap.{BTreeMap, get_by, UpdatesBy}
use Rattle.std.specs.Cmp.Lexicographic.{slice_cmp}
use Rattle.std.specs.Str.{bytes_eq}
use Rattle.std.proofs.lemmas.Bool.{cases_Bool}
use Rattle.std.proofs.lemmas.Map.Text.{btree_map_updates_str}
use Rattle.std.proofs.lemmas.List.{take_more, drop_more, length-map, length-take-le, map-append}
use Rattle.std.proofs.lemmas.Slice.Eq.{bytes_eq-Decides}
use Rattle.mi_idt.specs.declared.table.Column.{Column}
use Rattle.mi_idt.specs.Cells.{names_of}
use Rattle.mi_idt.specs.Columns.{place_of, names_fault}
use Rattle.mi_idt.specs.Index.{IsIndex}
use Rattle.mi_idt.specs.Means.{column_value}
use Rattle.mi_idt.proofs.Basics.{none_from, shown}

abbrev pub or_last : Option ℕ → Bool → ℕ → Option ℕ
or_last (Some i) b n = Some i
or_last None true n = Some n
or_last None false n = None

or_last-suc : (r : Option ℕ) (b : Bool) (n : ℕ) → option_map (λ i. i + 1) (or_last r b n) ≡ or_last (option_map (λ i. i + 1) r) b (n + 1)
or_last-suc (Some i) b n = refl
or_last-suc None true n = refl
or_last-suc None false n = refl

length_cons : (m : List ℕ) (ms : List (List ℕ)) → length ms + 1 ≡ length (m ∷ ms)
length_cons m ms = omega arith

pub place_push : (ns : List (List ℕ)) (n q : List ℕ) → place_of (ns ++ n ∷ []) q ≡ or_last (place_of ns q) (bytes_eq q n) (length ns)
place_push [] n q = elim (cases_Bool (bytes_eq q n)) [ inl e ↦ rw e refl | inr e ↦ rw e refl ]
place_push (m ∷ ns) n q =
    elim (cases_Bool (bytes_eq q m)) [
      | inl e ↦ rw e refl
      | inr e ↦ rw (e, place_push ns n q, or_last-suc (place_of ns q) (bytes_eq q n) (length ns), length_cons m ns) refl
    ]

or_last-false : (r : Option ℕ) (n : ℕ) → or_last r false n ≡ r
or_last-false (Some i) n = refl
or_last-false None n = refl

-- two texts are equal either way
pub bytes_eq-sym : (xs ys : List ℕ) → bytes_eq xs ys ≡ false → bytes_eq ys xs ≡ false
bytes_eq-sym xs ys f = elim (cases_Bool (bytes_eq ys xs)) [
  | inl t ↦ let e : bytes_eq xs ys ≡ true = (bytes_eq-Decides xs ys).1 (sym ((bytes_eq-Decides ys xs).0 t)) in absurd cc
  | inr other ↦ other
]

pub shown_more : (names : List (Bor (List ℕ))) (i : ℕ) (d : Bor (List ℕ)) → i < length names → shown (take (i + 1) names) ≡ shown (take i names) ++ (get_or names i d).now ∷ []
shown_more names i d h = ap shown (take_more names i d h) ∙ map-append (λ (b : Bor (List ℕ)). b.now) (take i names) (get_or names i d ∷ [])

pub index_next : (places after : BTreeMap (Bor (List ℕ)) ℕ) (names : List (Bor (List ℕ))) (i : ℕ) (d : Bor (List ℕ)) → i < length names → IsIndex places (shown (take i names))
    → is_some (get_by (λ k. slice_cmp nat_cmp (get_or names i d).now k.now) places) ≡ false
    → UpdatesBy (λ x y. slice_cmp nat_cmp x.now y.now) (λ k. slice_cmp nat_cmp (get_or names i d).now k.now) places after (Some i)
    → IsIndex after (shown (take (i + 1) names))
index_next places after names i d in_range index fresh updates q =
    let name : List ℕ = (get_or names i d).now in
    let before : List (List ℕ) = shown (take i names) in
    let now : place_of (shown (take (i + 1) names)) q ≡ or_last (place_of before q) (bytes_eq q name) (length before) = ap (λ (ns : List (List ℕ)). place_of ns q) (shown_more names i d in_range) ∙ place_push before name q in
    let long : length before ≡ i = length-map (take i names) (λ (b : Bor (List ℕ)). b.now) ∙ length-take-le i names (omega arith) in
    let absent : place_of before name ≡ None = none_from (place_of before name) (ap is_some (sym (index name)) ∙ fresh) in
    let put = btree_map_updates_str name places after (Some i) updates q in
    elim (cases_Bool (bytes_eq name q)) [
      | inl t ↦
          let same : name ≡ q = (bytes_eq-Decides name q).0 t in
          let back : bytes_eq q name ≡ true = (bytes_eq-Decides q name).1 (sym same) in
          let gone : place_of before q ≡ None = ap (place_of before) (sym same) ∙ absent in
          let here : or_last (place_of before q) (bytes_eq q name) (length before) ≡ Some i = rw (gone, back, long) refl in
          put ∙ ap (λ (b : Bool). cond b (Some i) (get_by (λ k. slice_cmp nat_cmp q k.now) places)) t ∙ sym (now ∙ here)
      | inr f ↦
          let there : or_last (place_of before q) (bytes_eq q name) (length before) ≡ place_of before q = ap (λ (b : Bool). or_last (place_of before q) b (length before)) (bytes_eq-sym name q f) ∙ or_last-false (place_of before q) (length before) in
          put ∙ ap (λ (b : Bool). cond b (Some i) (get_by (λ k. slice_cmp nat_cmp q k.now) places)) f ∙ index q ∙ sym (now ∙ there)
    ]

pub names_go_on : (places : BTreeMap (Bor (List ℕ)) ℕ) (names : List (Bor (List ℕ))) (i : ℕ) (d : Bor (List ℕ)) → i < length names → IsIndex places (shown (take i names))
    → eqb (length (get_or names i d).now) 0 ≡ false → is_some (get_by (λ k. slice_cmp nat_cmp (get_or names i d).now k.now) places) ≡ false
    → names_fault (shown (take i names)) (i + 1) (shown (drop i names)) ≡ names_fault (shown (take (i + 1) names)) (i + 1 + 1) (shown (drop (i + 1) names))
names_go_on places names i d in_range index full fresh =
    let name : List ℕ = (get_or names i d).now in
    let before : List (List ℕ) = shown (take i names) in
    let absent : is_some (place_of before name) ≡ false = ap is_some (sym (index name)) ∙ fresh in
    let step : names_fault before (i + 1) (name ∷ shown (drop (i + 1) names)) ≡ names_fault (before ++ name ∷ []) (i + 1 + 1) (shown (drop (i + 1) names)) = rw (full, absent) refl in
    ap (λ (ns : List (Bor (List ℕ))). names_fault before (i + 1) (shown ns)) (drop_more names i d in_range) ∙ step ∙ ap (λ (ns : List (List ℕ)). names_fault ns (i + 1 + 1) (shown (drop (i + 1) names))) (sym (shown_more names i d in_range))

-- the name of the column of a place
pub name_at : (cs : List Column) (i : ℕ) (d : Column) → i < length cs → (get_or cs i d).name.now ≡ get_or (names_of (map column_value cs)) i []
name_at [] i d h = absurd (omega arith)
name_at (c ∷ cs) zero d h = refl
name_at (c ∷ cs) (suc i) d h = name_at cs i d (omega arith)

pub no_name_at : (cs : List Column) (i : ℕ) → length cs ≤ i → [] ≡ get_or (names_of (map column_value cs)) i []
no_name_at [] i h = refl
no_name_at (c ∷ cs) zero h = absurd (omega arith)
no_name_at (c ∷ cs) (suc i) h = no_name_at cs i (omega arith)
