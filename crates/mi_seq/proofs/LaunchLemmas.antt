-- The first launch condition in key order that is false.
use Rattle.std.proofs.Common.{◌≡◌, ◌≢◌, ℕ, zero, suc, ◌+◌, ◌-◌, ◌<◌, ◌≤◌, ◌&&◌, Bool, true, false, cond, not, T, List, [], ◌∷◌, map, drop, length, get_or, Option, Some, None, refl, sym, ap, ◌∙◌, subst, add-one, arith}
use Rattle.std.specs.Prelude.{find, option_map, slice_get, AllPairs, codes, Result, Ok, Err}
use Rattle.std.specs.declared.cmp.Ordering.{Ordering}
use Rattle.std.specs.declared.cmp.Ordering.TheVariants.{Less, Equal, Greater}
use Rattle.std.specs.Ordering.{is_lt, is_eq, eq_by_cmp}
use Rattle.std.specs.FinMap.{entries, from_entries, insert, get, entries-insert, entries_sorted, get-entries, get-from_entries, len-entries, len-empty}
use Rattle.std.specs.FinMap as fin
use Rattle.std.specs.FinMap.Entries.{put, by_order, below_all, is_sorted}
use Rattle.mi_text.specs.Maps.{Name, Map, name_cmp, same_name}
use Rattle.mi_text.specs.Lookups.{Lookups}
use Rattle.mi_text.proofs.MapLemmas.{names_total, from_same}
use Rattle.mi_base.specs.declared.answers.Fault.{Fault}
use Rattle.mi_base.specs.declared.answers.Fault.TheVariants as faults
use Rattle.mi_base.specs.declared.answers.Cause.{Cause}
use Rattle.mi_base.specs.declared.answers.Cause.TheVariants as cause
use Rattle.mi_format.specs.Expansion as format
use Rattle.mi_format.specs.declared.error.FormatFault.{FormatFault}
use Rattle.mi_format.specs.declared.error.FormatFault.TheVariants.{TooDeep}
use Rattle.mi_schema.specs.declared.typed_rows.LaunchConditionRow.{LaunchConditionRow}
use Rattle.mi_schema.specs.TableRows.{Rows, Numbered, numbered_from, in_key_order}
use Rattle.mi_model.specs.Texts.{Text}
use Rattle.mi_model.specs.Refusals.{expanded}
use Rattle.mi_model.specs.LaunchConditions.{is_false, described, launch_refusal}
use Rattle.mi_seq.proofs.OrderLemmas.{drop-there, drop-all, of_length}
use Rattle.mi_seq.specs.Launches.{Condition, comes_before, first_of, first_among, found_from}

abbrev Row : Type 0
Row = Name × LaunchConditionRow

-- a row with its key
abbrev keyed : Condition → Name × Condition
keyed c = (c.row.0, c)

abbrev second : Name × Condition → Condition
second e = e.1

-- each stands at its own key
abbrev AreKeyed : List (Name × Condition) → Type 0
AreKeyed [] = Unit {0}
AreKeyed (e ∷ es) = (e.0 ≡ e.1.row.0) × AreKeyed es

-- ---- what is put among rows in order

both_left : (a b : Bool) → T (a && b) → T a
both_left true b p = tt
both_left false b p = p

both_right : (a b : Bool) → T (a && b) → T b
both_right true b p = p
both_right false b p = absurd p

is_less : (o : Ordering) → T (is_lt o) → o ≡ Less
is_less Less p = refl
is_less Equal p = absurd p
is_less Greater p = absurd p

-- a key that none of the rows has
not_here : (k : Name) (e : Name × Condition) (es : List (Name × Condition)) → fin.find name_cmp k (e ∷ es) ≡ None → (is_eq (name_cmp k e.0) ≡ false) × (fin.find name_cmp k es ≡ None)
not_here k e es none = elim (is_eq (name_cmp k e.0)) as (λ b. cond b (Some e.1) (fin.find name_cmp k es) ≡ None → (b ≡ false) × (fin.find name_cmp k es ≡ None)) [ true ↦ λ at. cc | false ↦ λ at. (refl, at) ] none

keyed_put : (k : Name) (c : Condition) (es : List (Name × Condition)) → k ≡ c.row.0 → fin.find name_cmp k es ≡ None → AreKeyed es → AreKeyed (put name_cmp k c es)
keyed_put k c [] is none are = (is, tt)
keyed_put k c (e ∷ es) is none are =
    let here = not_here k e es none in
    elim (name_cmp k e.0) as (λ o. is_eq o ≡ false → AreKeyed (by_order o ((k, c) ∷ e ∷ es) ((e.0, c) ∷ es) (e ∷ put name_cmp k c es))) [
      | Less ↦ λ at. (is, are)
      | Equal ↦ λ at. cc
      | Greater ↦ λ at. (are.0, keyed_put k c es is here.1 are.1)
    ] here.0

-- a key below all comes before the one that is found
before_all : (L : Lookups) (k : Name) (es : List (Name × Condition)) → AreKeyed es → T (below_all name_cmp k es) → comes_before k (find (is_false L) (map second es)) ≡ true
before_all L k [] are below = refl
before_all L k (e ∷ es) are below =
    elim (is_false L e.1) as (λ b. comes_before k (cond b (Some e.1) (find (is_false L) (map second es))) ≡ true) [
      | true ↦ ap (λ n. is_lt (name_cmp k n)) (sym are.0) ∙ ap is_lt (is_less (name_cmp k e.0) (both_left _ _ below))
      | false ↦ before_all L k es are.1 (both_right _ _ below)
    ]

below_too : (k n : Name) (es : List (Name × Condition)) → name_cmp k n ≡ Less → T (below_all name_cmp n es) → T (below_all name_cmp k es)
below_too k n [] less below = tt
below_too k n (e ∷ es) less below =
    let here : name_cmp k e.0 ≡ Less = names_total.trans k n e.0 less (is_less (name_cmp n e.0) (both_left _ _ below)) in
    subst (λ o. T (is_lt o && below_all name_cmp k es)) (sym here) (below_too k n es less (both_right _ _ below))

-- by whether it is false
of_two : (L : Lookups) (c : Condition) (found : Option Condition) → comes_before c.row.0 found ≡ true → cond (is_false L c) (Some c) found ≡ first_of L c found
of_two L c found before = elim (is_false L c) as (λ b. cond b (Some c) found ≡ cond (b && comes_before c.row.0 found) (Some c) found) [
  | true ↦ sym (ap (λ t. cond t (Some c) found) before)
  | false ↦ refl
]

of_later : (L : Lookups) (c e : Condition) → is_lt (name_cmp c.row.0 e.row.0) ≡ false → Some e ≡ first_of L c (Some e)
of_later L c e later = elim (is_false L c) as (λ b. Some e ≡ cond (b && is_lt (name_cmp c.row.0 e.row.0)) (Some c) (Some e)) [
  | true ↦ sym (ap (λ t. cond t (Some c) (Some e)) later)
  | false ↦ refl
]

first_put : (L : Lookups) (c : Condition) (es : List (Name × Condition)) → AreKeyed es → T (is_sorted name_cmp es) → fin.find name_cmp c.row.0 es ≡ None
    → find (is_false L) (map second (put name_cmp c.row.0 c es)) ≡ first_of L c (find (is_false L) (map second es))
first_put L c [] are sorted none = of_two L c None refl
first_put L c (e ∷ es) are sorted none =
    let k = c.row.0 in
    let here = not_here k e es none in
    elim (name_cmp k e.0) as (λ o. name_cmp k e.0 ≡ o → is_eq o ≡ false
    → find (is_false L) (map second (by_order o ((k, c) ∷ e ∷ es) ((e.0, c) ∷ es) (e ∷ put name_cmp k c es))) ≡ first_of L c (find (is_false L) (map second (e ∷ es)))) [
      | Less ↦ λ at isnt. of_two L c (find (is_false L) (map second (e ∷ es))) (before_all L k (e ∷ es) are (subst (λ o. T (is_lt o && below_all name_cmp k es)) (sym at) (below_too k e.0 es at (both_left _ _ sorted))))
      | Equal ↦ λ at isnt. cc
      | Greater ↦ λ at isnt. elim (is_false L e.1) as (λ b. cond b (Some e.1) (find (is_false L) (map second (put name_cmp k c es))) ≡ first_of L c (cond b (Some e.1) (find (is_false L) (map second es)))) [
        | true ↦ of_later L c e.1 (ap (λ n. is_lt (name_cmp k n)) (sym are.0) ∙ ap is_lt at)
        | false ↦ first_put L c es are.1 (both_right _ _ sorted) here.1
      ]
    ] refl here.0

-- ---- all rows

-- the key of a row is that of no later one
abbrev IsApart : Name → List Row → Type 0
IsApart k [] = Unit {0}
IsApart k (r ∷ rows) = (k ≢ r.0) × IsApart k rows

abbrev AreApart : List Row → Type 0
AreApart [] = Unit {0}
AreApart (r ∷ rows) = IsApart r.0 rows × AreApart rows

apart_from : (k : Name) (rows : List Row) → ((j : ℕ) (d : Row) → j < length rows → k ≢ (get_or rows j d).0) → IsApart k rows
apart_from k [] all = tt
apart_from k (r ∷ rows) all = (all 0 r (omega arith), apart_from k rows (λ j d lt. all (suc j) d (omega arith)))

apart : (rows : List Row) → AllPairs (λ (a b : Row). a.0 ≢ b.0) rows → AreApart rows
apart [] all = tt
apart (r ∷ rows) all = (apart_from r.0 rows (λ j d lt. all 0 (suc j) d (omega arith) (omega arith)), apart rows (λ i j d lt within. all (suc i) (suc j) d (omega arith) (omega arith)))

none_with : (k : Name) (n : ℕ) (rows : List Row) → IsApart k rows → fin.find name_cmp k (map keyed (numbered_from n rows)) ≡ None
none_with k n [] is = refl
none_with k n (r ∷ rows) is = elim (same_name k r.0) as (λ b. same_name k r.0 ≡ b → cond b (Some (record { number = n; row = r })) (fin.find name_cmp k (map keyed (numbered_from (suc n) rows))) ≡ None) [
  | true ↦ λ at. absurd (is.0 (from_same k r.0 at))
  | false ↦ λ at. none_with k (suc n) rows is.1
] refl

abbrev map_from : ℕ → List Row → Map Condition
map_from n rows = from_entries (map keyed (numbered_from n rows))

nothing : (n : ℕ) → entries (map_from n []) ≡ []
nothing n = of_length (entries (map_from n [])) (sym (len-entries (map_from n [])) ∙ len-empty name_cmp Condition)

record Ordered (L : Lookups) (n : ℕ) (rows : List Row) : Type 0 where
  keyed : AreKeyed (entries (map_from n rows))
  first : first_among L (numbered_from n rows) ≡ find (is_false L) (map second (entries (map_from n rows)))

ordered : (L : Lookups) (n : ℕ) (rows : List Row) → AreApart rows → Ordered L n rows
ordered L n [] are = record {
  keyed = subst AreKeyed (sym (nothing n)) tt;
  first = sym (ap (λ es. find (is_false L) (map second es)) (nothing n));
}
ordered L n (r ∷ rows) are =
    let c : Condition = record { number = n; row = r } in
    let rest = ordered L (suc n) rows are.1 in
    let none : fin.find name_cmp r.0 (entries (map_from (suc n) rows)) ≡ None = sym (get-entries (map_from (suc n) rows) r.0) ∙ get-from_entries names_total (map keyed (numbered_from (suc n) rows)) r.0 ∙ none_with r.0 (suc n) rows are.0 in
    let is : entries (map_from n (r ∷ rows)) ≡ put name_cmp r.0 c (entries (map_from (suc n) rows)) = entries-insert names_total (map_from (suc n) rows) r.0 c in
    record {
      keyed = subst AreKeyed (sym is) (keyed_put r.0 c (entries (map_from (suc n) rows)) refl none rest.keyed);
      first =
          ap (first_of L c) rest.first
          ∙ sym (first_put L c (entries (map_from (suc n) rows)) rest.keyed (entries_sorted (map_from (suc n) rows)) none)
          ∙ sym (ap (λ es. find (is_false L) (map second es)) is);
    }

-- the first of all rows that is false is the first in key order
pub first_of_all : (L : Lookups) (rows : List Row) → AllPairs (λ (a b : Row). a.0 ≢ b.0) rows → found_from L rows 0 ≡ find (is_false L) (in_key_order (λ (r : Row). r.0) rows)
unfolding in_key_order
first_of_all L rows all = (ordered L 1 rows (apart rows all)).first

-- ---- from the last row to the first

drop-past : {X : Type 0} (xs : List X) (k : ℕ) → slice_get xs k ≡ None → drop k xs ≡ []
drop-past [] zero e = refl
drop-past [] (suc k) e = refl
drop-past (y ∷ xs) zero e = cc
drop-past (y ∷ xs) (suc k) e = drop-past xs k e

drop-more : {X : Type 0} (xs : List X) (k : ℕ) → drop k xs ≡ [] → drop (suc k) xs ≡ []
drop-more [] zero e = refl
drop-more [] (suc k) e = refl
drop-more (y ∷ xs) zero e = cc
drop-more (y ∷ xs) (suc k) e = drop-more xs k e

pub found_with : (L : Lookups) (rows : List Row) (place : ℕ) (r : Row) (c : Condition) (found : Option Condition) → slice_get rows place ≡ Some r → c ≡ record { number = place + 1; row = r }
    → found ≡ found_from L rows (place + 1) → first_of L c found ≡ found_from L rows place
found_with L rows place r c found there is are =
    ap (λ (x : Condition). first_of L x found) is
    ∙ ap (first_of L (record { number = place + 1; row = r })) (are ∙ ap (λ n. first_among L (numbered_from n (drop (place + 1) rows))) (add-one (place + 1)) ∙ ap (λ n. first_among L (numbered_from (suc (place + 1)) (drop n rows))) (add-one place))
    ∙ sym (ap (λ rs. first_among L (numbered_from (place + 1) rs)) (drop-there rows place r there))

pub found_without : (L : Lookups) (rows : List Row) (place : ℕ) (found : Option Condition) → slice_get rows place ≡ None → found ≡ found_from L rows (place + 1) → found ≡ found_from L rows place
found_without L rows place found none are =
    let here : drop place rows ≡ [] = drop-past rows place none in
    let next : drop (place + 1) rows ≡ [] = ap (λ n. drop n rows) (add-one place) ∙ drop-more rows place here in
    are ∙ ap (λ rs. first_among L (numbered_from (place + 1 + 1) rs)) next ∙ sym (ap (λ rs. first_among L (numbered_from (place + 1) rs)) here)

pub found_start : (L : Lookups) (rows : List Row) (n : ℕ) → n ≡ length rows → None ≡ found_from L rows n
found_start L rows n at = sym (ap (λ rs. first_among L (numbered_from (n + 1) rs)) (ap (λ k. drop k rows) at ∙ drop-all rows))

pub found_below : (L : Lookups) (rows : List Row) (k : ℕ) (found : Option Condition) → 0 < k → found ≡ found_from L rows k → found ≡ found_from L rows ((k - 1) + 1)
found_below L rows k found lt are = are ∙ ap (found_from L rows) (above k lt)
  where
    above : (n : ℕ) → 0 < n → n ≡ (n - 1) + 1
    above n h = omega arith

pub found_end : (L : Lookups) (rows : List Row) (k : ℕ) (found : Option Condition) → k ≤ 0 → found ≡ found_from L rows k → found ≡ found_from L rows 0
found_end L rows k found le are = are ∙ ap (found_from L rows) (none k le)
  where
    none : (n : ℕ) → n ≤ 0 → n ≡ 0
    none n h = omega arith

-- ---- the refusal

pub refusal_of_all : (L : Lookups) (rows : Rows) (found : Option Condition) → AllPairs (λ (a b : Row). a.0 ≢ b.0) rows.launch_condition → found ≡ found_from L rows.launch_condition 0
    → option_map (λ (c : Condition). described (expanded L (codes "LaunchCondition") c.number c.row.1.description)) found ≡ launch_refusal rows L
unfolding launch_refusal
refusal_of_all L rows found all is = ap (option_map (λ (c : Condition). described (expanded L (codes "LaunchCondition") c.number c.row.1.description))) (is ∙ first_of_all L rows.launch_condition all)

pub is_described : (L : Lookups) (row : ℕ) (text t : Text) → format.expanded L text ≡ Ok t → cause.Launch t ≡ described (expanded L (codes "LaunchCondition") row text)
unfolding format.expanded expanded
is_described L row text t e =
    elim (format.is_too_deep text) as (λ b. cond b (Err TooDeep) (Ok (format.expand_of L text)) ≡ Ok t → cause.Launch t ≡ described (cond b (Err (faults.TooDeep (codes "LaunchCondition") row)) (Ok (format.expand_of L text)))) [
      | true ↦ λ at. cc
      | false ↦ λ at. ap (λ (r : Result Text FormatFault). of_format r) (sym at)
    ] e
  where
    of_format : Result Text FormatFault → Cause
    of_format (Ok x) = cause.Launch x
    of_format (Err f) = cause.Table (faults.TooDeep (codes "LaunchCondition") row)

pub is_too_deep : (L : Lookups) (row : ℕ) (text : Text) (f : FormatFault) → format.expanded L text ≡ Err f → cause.Table (faults.TooDeep (codes "LaunchCondition") row) ≡ described (expanded L (codes "LaunchCondition") row text)
unfolding format.expanded expanded
is_too_deep L row text f e =
    elim (format.is_too_deep text) as (λ b. cond b (Err TooDeep) (Ok (format.expand_of L text)) ≡ Err f → cause.Table (faults.TooDeep (codes "LaunchCondition") row) ≡ described (cond b (Err (faults.TooDeep (codes "LaunchCondition") row)) (Ok (format.expand_of L text)))) [
      | true ↦ λ at. refl
      | false ↦ λ at. cc
    ] e
