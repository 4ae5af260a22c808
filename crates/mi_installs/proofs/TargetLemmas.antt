-- The first row whose path an earlier row has.
use Rattle.std.proofs.Common.{◌≡◌, ℕ, ◌+◌, ◌<◌, Bool, true, false, cond, List, [], ◌∷◌, ◌++◌, map, take, drop, length, get_or, Option, Some, None, Bor, refl, sym, ap, ◌∙◌}
use Rattle.std.specs.Prelude.{find, option_map}
use Rattle.std.specs.Option.{option_or}
use Rattle.std.proofs.lemmas.List.{take_more, drop_more, map-append}
use Rattle.std.specs.Ordering.{is_eq, ordering_reverse}
use Rattle.std.specs.declared.cmp.Ordering.{Ordering}
use Rattle.std.specs.declared.cmp.Ordering.TheVariants.{Less, Equal, Greater}
use Rattle.mi_text.specs.Maps.{Name, name_cmp, same_name}
use Rattle.mi_text.proofs.MapLemmas.{names_total}
use Rattle.mi_text.specs.Fold.{folded}
use Rattle.mi_base.specs.declared.answers.Fault.TheVariants.{SameTarget}
use Rattle.mi_model.specs.InstallFiles.{Placed, have_one_path, same_target}
use Rattle.mi_installs.specs.Placings.{as_placed}
use Rattle.mi_schema.specs.declared.typed_rows.FileRow.{FileRow}
use Rattle.mi_installs.specs.declared.placed.Placed.{Placed as Own}

-- a row of this path, in whichever case
abbrev pub has_path : Name → Placed → Bool
has_path q a = same_name q (folded a.path)

abbrev pub row_in : Placed → FileRow
row_in a = a.row

abbrev pub now_of : Option (Bor FileRow) → Option FileRow
now_of found = option_map (λ (r : Bor FileRow). r.now) found

module _ (rows : List Own) (k : ℕ) (p : Own) (within : k < length rows) (is : p ≡ get_or rows k p) where
  before : List Placed
  before = map as_placed (take k rows)

  -- the rest begins with this row
  rest_begins : map as_placed (drop k rows) ≡ as_placed p ∷ map as_placed (drop (k + 1) rows)
  rest_begins = ap (map as_placed) (drop_more rows k p within) ∙ ap (λ (o : Own). as_placed o ∷ map as_placed (drop (k + 1) rows)) (sym is)

  pub one_more : map as_placed (take (k + 1) rows) ≡ map as_placed (take k rows) ++ as_placed p ∷ []
  one_more = ap (map as_placed) (take_more rows k p within) ∙ map-append as_placed (take k rows) (get_or rows k p ∷ []) ∙ ap (λ (o : Own). map as_placed (take k rows) ++ as_placed o ∷ []) (sym is)

  stepped : same_target (map as_placed (take k rows)) (map as_placed (drop k rows))
      ≡ option_or (option_map (λ (a : Placed). SameTarget a.row.file p.row.now.file) (find (have_one_path (as_placed p)) (map as_placed (take k rows)))) (same_target (map as_placed (take (k + 1) rows)) (map as_placed (drop (k + 1) rows)))
  stepped =
      ap (same_target (map as_placed (take k rows))) rest_begins
      ∙ ap (λ (ps : List Placed). option_or (option_map (λ (a : Placed). SameTarget a.row.file p.row.now.file) (find (have_one_path (as_placed p)) (map as_placed (take k rows)))) (same_target ps (map as_placed (drop (k + 1) rows)))) (sym one_more)

  -- an earlier row has its path
  pub repeats : (first : Bor FileRow) → option_map row_in (find (has_path (folded p.path)) (map as_placed (take k rows))) ≡ Some first.now
      → same_target (map as_placed (take k rows)) (map as_placed (drop k rows)) ≡ Some (SameTarget first.now.file p.row.now.file)
  repeats first found = stepped ∙ with_found (find (has_path (folded p.path)) (map as_placed (take k rows))) found
    where
      with_found : (o : Option Placed) → option_map row_in o ≡ Some first.now → option_or (option_map (λ (a : Placed). SameTarget a.row.file p.row.now.file) o) (same_target (map as_placed (take (k + 1) rows)) (map as_placed (drop (k + 1) rows))) ≡ Some (SameTarget first.now.file p.row.now.file)
      with_found None e = cc
      with_found (Some a) e = let same : a.row ≡ first.now = cc in ap (λ (r : FileRow). Some (SameTarget r.file p.row.now.file)) same

  -- none has
  pub goes_on : option_map row_in (find (has_path (folded p.path)) (map as_placed (take k rows))) ≡ None
      → same_target (map as_placed (take (k + 1) rows)) (map as_placed (drop (k + 1) rows)) ≡ same_target (map as_placed (take k rows)) (map as_placed (drop k rows))
  goes_on none = sym (stepped ∙ with_none (find (has_path (folded p.path)) (map as_placed (take k rows))) none)
    where
      with_none : (o : Option Placed) → option_map row_in o ≡ None → option_or (option_map (λ (a : Placed). SameTarget a.row.file p.row.now.file) o) (same_target (map as_placed (take (k + 1) rows)) (map as_placed (drop (k + 1) rows))) ≡ same_target (map as_placed (take (k + 1) rows)) (map as_placed (drop (k + 1) rows))
      with_none None e = refl
      with_none (Some a) e = cc

-- ---- what the tree finds

turned : (o : Ordering) → is_eq (ordering_reverse o) ≡ is_eq o
turned Less = refl
turned Equal = refl
turned Greater = refl

pub same_both_ways : (a b : Name) → is_eq (name_cmp a b) ≡ same_name b a
same_both_ways a b = ap is_eq (names_total.antisymm a b) ∙ turned (name_cmp b a)

-- after a row behind rows that haven't its path
pub found_with : (q : Name) (ps : List Placed) (p : Placed) → (same_name q (folded p.path) ≡ true → option_map row_in (find (has_path q) ps) ≡ None)
    → option_map row_in (find (has_path q) (ps ++ p ∷ [])) ≡ cond (same_name q (folded p.path)) (Some p.row) (option_map row_in (find (has_path q) ps))
found_with q [] p none = elim (same_name q (folded p.path)) as (λ b. option_map row_in (cond b (Some p) None) ≡ cond b (Some p.row) None) [ true ↦ refl | false ↦ refl ]
found_with q (a ∷ ps) p none = step (same_name q (folded a.path)) (same_name q (folded p.path)) (found_with q ps p) none
  where
    step : (b c : Bool) → ((c ≡ true → option_map row_in (find (has_path q) ps) ≡ None) → option_map row_in (find (has_path q) (ps ++ p ∷ [])) ≡ cond c (Some p.row) (option_map row_in (find (has_path q) ps)))
        → (c ≡ true → option_map row_in (cond b (Some a) (find (has_path q) ps)) ≡ None)
        → option_map row_in (cond b (Some a) (find (has_path q) (ps ++ p ∷ []))) ≡ cond c (Some p.row) (option_map row_in (cond b (Some a) (find (has_path q) ps)))
    step true true rest none = let no = none refl in cc
    step true false rest none = refl
    step false c rest none = rest none

-- the tree with one row more
pub held_with : (q : Name) (rows : List Own) (k : ℕ) (p : Own) (path : Name) (was now : Option FileRow) → k < length rows → p ≡ get_or rows k p → path ≡ folded p.path
    → ((q : Name) → same_name q path ≡ true → option_map row_in (find (has_path q) (map as_placed (take k rows))) ≡ None)
    → was ≡ option_map row_in (find (has_path q) (map as_placed (take k rows)))
    → now ≡ cond (same_name q path) (Some p.row.now) was
    → now ≡ option_map row_in (find (has_path q) (map as_placed (take (k + 1) rows)))
held_with q rows k p path was now within is at none before then =
    then
    ∙ ap (cond (same_name q path) (Some p.row.now)) before
    ∙ ap (λ (n : Name). cond (same_name q n) (Some p.row.now) (option_map row_in (find (has_path q) (map as_placed (take k rows))))) at
    ∙ sym (found_with q (map as_placed (take k rows)) (as_placed p) (λ e. none q (ap (same_name q) at ∙ e)))
    ∙ ap (λ (ps : List Placed). option_map row_in (find (has_path q) ps)) (sym (one_more rows k p within is))

-- what the tree has with this row at a path
pub inserted : (q path : Name) (r : Bor FileRow) (was : Option (Bor FileRow)) → now_of (cond (is_eq (name_cmp path q)) (Some r) was) ≡ cond (same_name q path) (Some r.now) (now_of was)
inserted q path r was = by (is_eq (name_cmp path q)) ∙ ap (λ b. cond b (Some r.now) (now_of was)) (same_both_ways path q)
  where
    by : (b : Bool) → now_of (cond b (Some r) was) ≡ cond b (Some r.now) (now_of was)
    by true = refl
    by false = refl
