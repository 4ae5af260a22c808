-- Plain rows: the names that they touch are those that their changes' spelling names, and these get as great.
use Rattle.std.proofs.Common.{◌≡◌, ℕ, ◌≤◌, Bool, true, false, cond, ◌||◌, List, [], ◌∷◌, ◌++◌, map, filter, Option, Some, None, refl, sym, ap, ◌∙◌, append_assoc, arith, inl, inr}
use Rattle.std.specs.Prelude.{◌&&◌, not, max, option_map, is_some}
use Rattle.std.specs.FinMap.{get, keys}
use Rattle.std.proofs.lemmas.Bool.{and_parts, or_right, or_parts, or_cases}
use Rattle.std.proofs.lemmas.List.{map-append}
use Rattle.mi_text.specs.Maps.{Name, same_name, is_among}
use Rattle.mi_text.proofs.MapLemmas.{get-set_to, get-retained, among-keys, is_among-append}
use Rattle.mi_volume.specs.Maps.{slot_size}
use Rattle.mi_base.specs.declared.entry.Entry.{Entry}
use Rattle.mi_base.specs.Machine.{Machine, volume_of}
use Rattle.mi_base.specs.Spelling.{record_of}
use Rattle.mi_changes.specs.Touches.{Set, Clear, names_of, after_touches, touched, by_touch}
use Rattle.mi_changes.specs.Changes.{Change, written, gone, changes}
use Rattle.mi_changes.proofs.TouchLemmas.{one_by_one}
use Rattle.mi_changes.proofs.ChangeLemmas.{written-changes, changes-append}
use Rattle.mi_script.specs.Spelled.{same_record, writes_file, spelled_changes, is_file_name}
use Rattle.mi_script.proofs.SpellLemmas.{written-spelled, spelled-append}
use Rattle.mi_model.specs.PhaseRows.{Touches, after_rows}
use Rattle.mi_model.specs.Plans.{all_touches}
use Rattle.mi_model.specs.Cost.{size_at, touches_name, touched_by, touched_in, greatest}
use Rattle.mi_cost.proofs.CostOfChanges.{Segment, names_changed, greatest_size}
use Rattle.mi_model.specs.Plain.{times, ArePlain}
use Rattle.mi_cost.proofs.NameLemmas.{among-filter}
use Rattle.mi_cost.proofs.ChangeLemmas.{differs, names_are, sizes_are}

-- ---- the changes of a row's touches

pub among_both : {X : Type 0} → (q : Name) (a b : List (Change X)) → is_among q (names_changed (a ++ b)) ≡ (is_among q (names_changed a) || is_among q (names_changed b))
among_both q a b = ap (is_among q) (map-append (λ c. c.at) a b) ∙ is_among-append q (names_changed a) (names_changed b)

names_gone : (names : List Name) → names_changed (map (gone {X = Entry}) names) ≡ names
names_gone [] = refl
names_gone (n ∷ names) = ap (λ (ns : List Name). n ∷ ns) (names_gone names)

-- a name that is set is changed
set_changes : (m : Machine) (q : Name) (row : Touches) → is_among q (names_of row) ≡ true → is_among q (names_changed (changes m row)) ≡ true
set_changes m q [] is = cc
set_changes m q (Set n f ∷ ts) is =
    elim (same_name q n) as (λ b. (b || is_among q (names_of ts)) ≡ true → (b || is_among q (names_changed (changes (touched m (Set n f)) ts))) ≡ true) [
      | true ↦ λ e. refl
      | false ↦ λ e. set_changes (touched m (Set n f)) q ts e
    ] is
set_changes m q (Clear p ∷ ts) is =
    among_both q (map (gone {X = Entry}) (filter p (keys m))) (changes (touched m (Clear p)) ts)
    ∙ or_right (is_among q (names_changed (map (gone {X = Entry}) (filter p (keys m))))) _ (set_changes (touched m (Clear p)) q ts is)

-- nothing comes at a name that isn't set
not_set : (m : Machine) (q : Name) (row : Touches) → is_among q (names_of row) ≡ false → get m q ≡ None → get (by_touch m row) q ≡ None
not_set m q [] isnt none = none
not_set m q (Set n f ∷ ts) isnt none =
    let parts = or_parts (same_name q n) (is_among q (names_of ts)) isnt in
    not_set (touched m (Set n f)) q ts parts.1 (get-set_to m n (f (get m n)) q ∙ ap (λ (b : Bool). cond b (f (get m n)) (get m q)) parts.0 ∙ none)
not_set m q (Clear p ∷ ts) isnt none =
    not_set (touched m (Clear p)) q ts isnt (get-retained m (λ k. not (p k)) q ∙ ap (λ (o : Option Entry). cond (not (p q)) o None) none ∙ either (p q))
  where
    either : (b : Bool) → ◌≡◌ {A = Option Entry} (cond (not b) None None) None
    either true = refl
    either false = refl

-- a name that is changed and not set is taken away
only_cleared : (m : Machine) (q : Name) (row : Touches) → is_among q (names_of row) ≡ false → is_among q (names_changed (changes m row)) ≡ true → get (by_touch m row) q ≡ None
only_cleared m q [] isnt is = cc
only_cleared m q (Set n f ∷ ts) isnt is =
    let parts = or_parts (same_name q n) (is_among q (names_of ts)) isnt in
    let after = touched m (Set n f) in
    only_cleared after q ts parts.1 (sym (ap (λ (b : Bool). b || is_among q (names_changed (changes after ts))) parts.0) ∙ is)
only_cleared m q (Clear p ∷ ts) isnt is =
    let after = touched m (Clear p) in
    let clears = filter p (keys m) in
    elim (or_cases (is_among q (names_changed (map (gone {X = Entry}) clears))) (is_among q (names_changed (changes after ts))) (sym (among_both q (map (gone {X = Entry}) clears) (changes after ts)) ∙ is)) [
      | inl e ↦
          let passes : p q ≡ true = (and_parts (p q) (is_among q (keys m)) (sym (among-filter p q (keys m)) ∙ sym (ap (is_among q) (names_gone clears)) ∙ e)).0 in
          not_set after q ts isnt (get-retained m (λ k. not (p k)) q ∙ ap (λ (b : Bool). cond (not b) (get m q) None) passes)
      | inr e ↦ only_cleared after q ts isnt e
    ]

-- a file that stands behind a row that names it was set
named_alike : (m : Machine) (q : Name) (row : Touches) → (is_among q (names_of row) && writes_file q (get (by_touch m row) q)) ≡ (is_among q (names_changed (changes m row)) && writes_file q (get (by_touch m row) q))
named_alike m q row =
    let stands = writes_file q (get (by_touch m row) q) in
    by_set (is_among q (names_of row)) (is_among q (names_changed (changes m row))) stands (set_changes m q row)
    (λ isnt is. ap (writes_file q) (only_cleared m q row isnt is) ∙ no_file (is_file_name q))
  where
    no_file : (b : Bool) → (b && false) ≡ false
    no_file true = refl
    no_file false = refl

    by_set : (a b w : Bool) → (a ≡ true → b ≡ true) → (a ≡ false → b ≡ true → w ≡ false) → (a && w) ≡ (b && w)
    by_set true b w f g = ap (λ (x : Bool). x && w) (sym (f refl))
    by_set false true w f g = sym (g refl refl)
    by_set false false w f g = refl

-- ---- one row

touched_is_held : (f b : Bool) (o u : Option Entry)
    → ((not (same_record (option_map record_of o) (option_map record_of u)) || (b && (f && is_some u))) && (is_some o || is_some u)) ≡ (not (same_record (option_map record_of o) (option_map record_of u)) || (b && (f && is_some u)))
touched_is_held true true None None = refl
touched_is_held true false None None = refl
touched_is_held false true None None = refl
touched_is_held false false None None = refl
touched_is_held f b None (Some y) = refl
touched_is_held f b (Some x) None = refl
touched_is_held f b (Some x) (Some y) = whole _
  where
    whole : (x : Bool) → (x && true) ≡ x
    whole true = refl
    whole false = refl

touched_names : (m : Machine) (q : Name) (row : Touches) → is_among q (touched_by m row) ≡ differs m (after_touches m row) q (is_among q (names_of row))
touched_names m q row =
    let n = after_touches m row in
    among-filter (touches_name m row) q (keys m ++ keys n)
    ∙ ap (λ (b : Bool). touches_name m row q && b) (is_among-append q (keys m) (keys n))
    ∙ ap (λ (b : Bool). touches_name m row q && (b || is_among q (keys n))) (sym (among-keys m q))
    ∙ ap (λ (b : Bool). touches_name m row q && (is_some (get m q) || b)) (sym (among-keys n q))
    ∙ touched_is_held (is_file_name q) (is_among q (names_of row)) (get m q) (get n q)

-- the machine after a row is that after its changes
after_changes : (m : Machine) (row : Touches) → written m (changes m row) ≡ after_touches m row
after_changes m row = written-changes m row ∙ one_by_one m row

row_names : (m : Machine) (q : Name) (row : Touches) → times q (changes m row) ≤ 1 → is_among q (touched_by m row) ≡ is_among q (names_changed (spelled_changes (volume_of m) (changes m row)))
row_names m q row few =
    touched_names m q row
    ∙ ap (λ (n : Machine). differs m n q (is_among q (names_of row))) (sym (one_by_one m row))
    ∙ ap (λ (b : Bool). not (same_record (option_map record_of (get m q)) (option_map record_of (get (by_touch m row) q))) || b) (named_alike m q row)
    ∙ ap (λ (n : Machine). differs m n q (is_among q (names_changed (changes m row)))) (sym (written-changes m row))
    ∙ sym (names_are m q (changes m row) few)

row_sizes : (m : Machine) (q : Name) (row : Touches) → times q (changes m row) ≤ 1
    → max (size_at m q) (greatest_size q (spelled_changes (volume_of m) (changes m row))) ≡ max (size_at m q) (size_at (after_touches m row) q)
row_sizes m q row few = sizes_are m q (changes m row) few ∙ ap (λ (n : Machine). max (size_at m q) (size_at n q)) (after_changes m row)

-- ---- rows

-- the spelling of what rows change
abbrev pub row_changes : Machine → List Touches → Segment
row_changes m rows = spelled_changes (volume_of m) (changes m (all_touches rows))

first_row : (m : Machine) (row : Touches) (rows : List Touches) → row_changes m (row ∷ rows) ≡ spelled_changes (volume_of m) (changes m row) ++ row_changes (after_touches m row) rows
first_row m row rows =
    let rest = all_touches rows in
    let firsts = spelled_changes (volume_of m) (changes m row) in
    ap (spelled_changes (volume_of m)) (changes-append m row rest ∙ ap (λ (n : Machine). changes m row ++ changes n rest) (one_by_one m row))
    ∙ spelled-append (volume_of m) (changes m row) (changes (after_touches m row) rest)
    ∙ ap (λ d. firsts ++ spelled_changes d (changes (after_touches m row) rest)) (written-spelled m (changes m row) ∙ ap volume_of (after_changes m row))

pub rows_append : (m : Machine) (a b : List Touches) → row_changes m (a ++ b) ≡ row_changes m a ++ row_changes (after_rows m a) b
rows_append m [] b = refl
rows_append m (row ∷ a) b =
    let n = after_touches m row in
    let firsts = spelled_changes (volume_of m) (changes m row) in
    first_row m row (a ++ b)
    ∙ ap (λ (s : Segment). firsts ++ s) (rows_append n a b)
    ∙ sym (append_assoc firsts (row_changes n a) (row_changes (after_rows n a) b))
    ∙ ap (λ (s : Segment). s ++ row_changes (after_rows n a) b) (sym (first_row m row a))

pub rows_names : (m : Machine) (q : Name) (rows : List Touches) → ArePlain m rows → is_among q (touched_in m rows) ≡ is_among q (names_changed (row_changes m rows))
rows_names m q [] plain = refl
rows_names m q (row ∷ rows) plain =
    let n = after_touches m row in
    let firsts = spelled_changes (volume_of m) (changes m row) in
    is_among-append q (touched_by m row) (touched_in n rows)
    ∙ ap (λ (b : Bool). b || is_among q (touched_in n rows)) (row_names m q row (plain.0 q))
    ∙ ap (λ (b : Bool). is_among q (names_changed firsts) || b) (rows_names n q rows plain.1)
    ∙ sym (among_both q firsts (row_changes n rows))
    ∙ ap (λ s. is_among q (names_changed s)) (sym (first_row m row rows))

pub greatest_both : (q : Name) (a b : Segment) → greatest_size q (a ++ b) ≡ max (greatest_size q a) (greatest_size q b)
greatest_both q [] b = omega arith
greatest_both q (c ∷ a) b = by_name (slot_size q c.after) _ _ _ (same_name q c.at) (greatest_both q a b)
  where
    by_name : (s x y z : ℕ) (is : Bool) → x ≡ max y z → cond is (max s x) x ≡ max (cond is (max s y) y) z
    by_name s x y z true e = omega arith
    by_name s x y z false e = e

greater : (s t first rest all : ℕ) → max s first ≡ max s t → max t rest ≡ max t all → max s (max t all) ≡ max s (max first rest)
greater s t first rest all e f = omega arith

pub rows_sizes : (m : Machine) (q : Name) (rows : List Touches) → ArePlain m rows → max (size_at m q) (greatest q m rows) ≡ max (size_at m q) (greatest_size q (row_changes m rows))
rows_sizes m q [] plain = refl
rows_sizes m q (row ∷ rows) plain =
    let n = after_touches m row in
    let firsts = spelled_changes (volume_of m) (changes m row) in
    greater (size_at m q) (size_at n q) (greatest_size q firsts) (greatest_size q (row_changes n rows)) (greatest q n rows) (row_sizes m q row (plain.0 q)) (sym (rows_sizes n q rows plain.1))
    ∙ ap (max (size_at m q)) (sym (greatest_both q firsts (row_changes n rows)))
    ∙ ap (λ s. max (size_at m q) (greatest_size q s)) (sym (first_row m row rows))
