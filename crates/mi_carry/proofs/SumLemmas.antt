-- What segments take of room, as sums over the names that are noted: never more than what they cost over the former map.
use Rattle.std.proofs.Common.{◌≡◌, ℕ, ◌+◌, ◌*◌, ◌-◌, ◌≤◌, max, Bool, true, false, cond, not, ◌||◌, List, [], ◌∷◌, ◌++◌, length, map, Option, Some, None, refl, sym, ap, subst, ◌∙◌, arith, sum_by}
use Rattle.std.specs.Prelude.{◌&&◌, is_some, option_map}
use Rattle.std.specs.List.{All, AllByRecursion, list_all, filter_map}
use Rattle.std.specs.Int.{w32, w64, to_be_bytes}
use Rattle.std.specs.FinMap.{get, keys, from_entries}
use Rattle.std.proofs.lemmas.Bool.{or_left, or_right}
use Rattle.std.proofs.lemmas.List.{length-append, map-append}
use Rattle.std.proofs.lemmas.List.Elements.{recursion_from_All}
use Rattle.std.proofs.lemmas.List.Sums.{sum_by-cons, sum_by-append}
use Rattle.mi_text.specs.Maps.{Name, name_cmp, same_name, is_among, tabulated}
use Rattle.mi_text.proofs.MapLemmas.{from_same, same_itself, is_among-append, among-keys, get-tabulated, get-retained}
use Rattle.mi_volume.specs.Maps.{Map, size, slot_size}
use Rattle.mi_volume.proofs.SizeLemmas.{size-within}
use Rattle.mi_base.specs.Spelling as spelling
use Rattle.mi_script.specs.declared.rec.Rec.{Rec}
use Rattle.mi_script.specs.declared.rec.Rec.TheVariants.{Put, Drop, Copy, Dup}
use Rattle.mi_script.specs.Scripts.{name_at, touched_names}
use Rattle.mi_undo.specs.Names.{is_inside}
use Rattle.mi_undo.specs.Notes.{notes_for, new_names, spelled, spelled_note}
use Rattle.mi_undo.specs.Stands.{outside, area_of}
use Rattle.mi_undo.specs.Area.{AreOutside}
use Rattle.mi_undo.specs.Room.{entry_size}
use Rattle.mi_undo.proofs.StandsLemmas.{get-outside}
use Rattle.mi_runner.specs.Records.{MayCarry}
use Rattle.mi_runner.specs.Sizes.{size_after, greatest, growth, most_held, IsNoLonger}
use Rattle.mi_runner.proofs.StepLemmas.{held_outside}
use Rattle.mi_runner.proofs.RecordLemmas.{is_among-touched, outside_at}
use Rattle.mi_model.specs.Cost.{note_size, set_of}
use Rattle.mi_model.specs.StatedSizes.{stated_size, all_records, greatest_stated, stated_cost_at, entries_in, stated_cost_of, stated_cost}
use Rattle.mi_carry.proofs.NameSums.{Apart, keys_apart, new_apart, among-new, none_new, last_unseen, sum_on, sum_both, sum_among, grown_sum}

-- ---- notes

spelled_size : (q : Name) (was : Option (List ℕ)) → length (spelled_note (record { name = q; was = was })) ≡ note_size q was
unfolding spelled_note
spelled_size q None = omega (arith, length-append (to_be_bytes w32 (length q)) q, length-append (0 ∷ to_be_bytes w32 (length q) ++ q) [])
spelled_size q (Some old) = omega (
  arith,
  length-append (to_be_bytes w32 (length q)) q,
  length-append (1 ∷ to_be_bytes w32 (length q) ++ q) (to_be_bytes w64 (length old)),
  length-append (1 ∷ (to_be_bytes w32 (length q) ++ q) ++ to_be_bytes w64 (length old)) old,
)

notes_size : (m : Map) (names : List Name) → length (spelled (notes_for m names)) ≡ sum_by (λ q. note_size q (get m q)) names
unfolding spelled
notes_size m [] = refl
notes_size m (n ∷ names) = omega (
  arith,
  length-append (spelled_note (record { name = n; was = get m n })) (spelled (notes_for m names)),
  spelled_size n (get m n),
  notes_size m names,
  sum_by-cons (λ q. note_size q (get m q)) n names,
)

-- ---- records

same_size : (r : Rec) → MayCarry r → size_after r ≡ stated_size r
same_size (Put name bytes) may = refl
same_size (Drop name) may = refl
same_size (Copy name h file path n) may = ap (λ (k : ℕ). length name + (length (spelling.head_bytes h) + k)) (sym may.1)
same_size (Dup name h from) may = refl

same_greatest : (rs : List Rec) (q : Name) → AllByRecursion MayCarry rs → greatest rs q ≡ greatest_stated q rs
same_greatest [] q may = refl
same_greatest (r ∷ rs) q may =
    ap (λ (n : ℕ). cond (same_name q (name_at r)) (max n (greatest rs q)) (greatest rs q)) (same_size r may.0)
    ∙ ap (λ (n : ℕ). cond (same_name q (name_at r)) (max (stated_size r) n) n) (same_greatest rs q may.1)

greatest-append : (xs ys : List Rec) (q : Name) → greatest_stated q (xs ++ ys) ≡ max (greatest_stated q xs) (greatest_stated q ys)
greatest-append [] ys q = omega arith
greatest-append (x ∷ xs) ys q =
    elim (same_name q (name_at x)) as (λ b. cond b (max (stated_size x) (greatest_stated q (xs ++ ys))) (greatest_stated q (xs ++ ys)) ≡ max (cond b (max (stated_size x) (greatest_stated q xs)) (greatest_stated q xs)) (greatest_stated q ys)) [
      | true ↦ let rest = greatest-append xs ys q in omega (arith, rest)
      | false ↦ greatest-append xs ys q
    ]

joined : {X : Type 0} → (a b c : List X) → (a ++ b) ++ c ≡ a ++ (b ++ c)
joined [] b c = refl
joined (x ∷ a) b c = ap (λ (l : List _). x ∷ l) (joined a b c)

nothing_more : {X : Type 0} → (a : List X) → a ++ [] ≡ a
nothing_more [] = refl
nothing_more (x ∷ a) = ap (λ (l : List _). x ∷ l) (nothing_more a)

pub records-append : (xs ys : List (List Rec)) → all_records (xs ++ ys) ≡ all_records xs ++ all_records ys
records-append [] ys = refl
records-append (x ∷ xs) ys = ap (λ (l : List Rec). x ++ l) (records-append xs ys) ∙ sym (joined x (all_records xs) (all_records ys))

-- the names that records of scripts change
abbrev pub names_of : List (List Rec) → List Name
names_of scripts = map name_at (all_records scripts)

names-append : (xs ys : List (List Rec)) → names_of (xs ++ ys) ≡ names_of xs ++ names_of ys
names-append xs ys = ap (λ (l : List Rec). map name_at l) (records-append xs ys) ∙ map-append name_at (all_records xs) (all_records ys)

-- whether a script has no name for the first time
abbrev known : List Name → List Rec → Bool
known seen rs = list_all (λ q. is_among q seen) (map name_at rs)

entries-append : (seen : List Name) (xs ys : List (List Rec)) → entries_in seen (xs ++ ys) ≡ entries_in seen xs + entries_in (seen ++ names_of xs) ys
entries-append seen [] ys = let same = ap (λ (l : List Name). entries_in l ys) (nothing_more seen) in omega (arith, same)
entries-append seen (x ∷ xs) ys =
    let rest = entries-append (seen ++ map name_at x) xs ys in
    let same : entries_in ((seen ++ map name_at x) ++ names_of xs) ys ≡ entries_in (seen ++ names_of (x ∷ xs)) ys =
    ap (λ (l : List Name). entries_in l ys) (joined seen (map name_at x) (names_of xs) ∙ ap (λ (l : List Name). seen ++ l) (sym (map-append name_at x (all_records xs)))) in
    omega (arith, rest, same)

-- ---- sizes

get-area_of : (m : Map) (q : Name) → get (area_of m) q ≡ cond (is_inside q) (get m q) None
unfolding area_of
get-area_of m q = get-retained m is_inside q

-- a map is no more than what is outside the area and what is in it
held_size : (m : Map) → size m ≤ size (outside m) + size (area_of m)
held_size m = size-within m (outside m) (area_of m) (λ q. at q)
  where
    at : (q : List ℕ) → slot_size q (get m q) ≤ slot_size q (get (outside m) q) + slot_size q (get (area_of m) q)
    at q =
        let out = ap (slot_size q) (get-outside m q) in
        let within = ap (slot_size q) (get-area_of m q) in
        elim (is_inside q) as (λ b. slot_size q (get (outside m) q) ≡ slot_size q (cond (not b) (get m q) None) → slot_size q (get (area_of m) q) ≡ slot_size q (cond b (get m q) None) → slot_size q (get m q) ≤ slot_size q (get (outside m) q) + slot_size q (get (area_of m) q)) [
          | true ↦ λ a b. omega (arith, a, b)
          | false ↦ λ a b. omega (arith, a, b)
        ] out within

growth_sum : (m : Map) (rs : List Rec) (names : List Name) → growth m rs names ≡ sum_by (λ q. greatest rs q - slot_size q (get m q)) names
growth_sum m rs [] = refl
growth_sum m rs (n ∷ names) = let rest = growth_sum m rs names in omega (arith, rest, sum_by-cons (λ q. greatest rs q - slot_size q (get m q)) n names)

-- ---- tests over names

both : (a b : Bool) → a && b ≡ true → (a ≡ true) × (b ≡ true)
both true b is = (refl, is)
both false b is = cc

all_at : (p : Name → Bool) (names : List Name) → list_all p names ≡ true → (q : Name) → is_among q names ≡ true → p q ≡ true
all_at p [] all q is = cc
all_at p (n ∷ names) all q is =
    elim (same_name q n) as (λ b. same_name q n ≡ b → (b || is_among q names) ≡ true → p q ≡ true) [
      | true ↦ λ e i. ap p (from_same q n e) ∙ (both (p n) (list_all p names) all).0
      | false ↦ λ e i. all_at p names (both (p n) (list_all p names) all).1 q i
    ] refl is

as_tabulated : (names : List Name) → map {B = Name × Bool} (λ n. (n, true)) names ≡ filter_map {Y = Name × Bool} (λ n. option_map (λ x. (n, x)) (Some true)) names
as_tabulated [] = refl
as_tabulated (n ∷ names) = ap (λ (es : List (Name × Bool)). (n, true) ∷ es) (as_tabulated names)

among-set : (names : List Name) (q : Name) → is_among q names ≡ true → is_among q (keys (set_of names)) ≡ true
unfolding tabulated
among-set names q is = sym (among-keys (set_of names) q)
    ∙ ap is_some (ap (λ (es : List (Name × Bool)). get {R = name_cmp} (from_entries es) q) (as_tabulated names) ∙ get-tabulated (λ n. Some true) names q ∙ ap (λ (b : Bool). cond b (Some true) None) is)

touched_apart : (rs : List Rec) → Apart (touched_names rs)
unfolding touched_names
touched_apart rs = keys_apart (tabulated (λ n. Some n) (map name_at rs))

-- ---- what scripts cost, where one has a record

abbrev pub whole : Map → List (List Rec) → ℕ
whole F scripts = 4 + 25 * entries_in [] scripts + sum_by (stated_cost_at F (all_records scripts)) (keys (set_of (names_of scripts)))

-- a script with a record costs the marker at least
names_none : (names : List Name) → keys (set_of names) ≡ [] → names ≡ []
names_none [] none = refl
names_none (n ∷ names) none =
    let held = among-set (n ∷ names) n (or_left (same_name n n) (is_among n names) (same_itself n)) in
    let clash : true ≡ false = sym held ∙ ap (is_among n) none in
    absurd (cc)

pub least_cost : (F : Map) (scripts : List (List Rec)) → (names_of scripts ≡ [] → ⊥) → 4 ≤ stated_cost F scripts
unfolding stated_cost
least_cost F scripts some = at (keys (set_of (names_of scripts))) refl
  where
    at : (names : List Name) → keys (set_of (names_of scripts)) ≡ names → 4 ≤ stated_cost_of F scripts names
    at [] is = absurd (some (names_none (names_of scripts) is))
    at (n ∷ names) is = omega arith

pub whole_is : (F : Map) (scripts : List (List Rec)) → 4 ≤ stated_cost F scripts → stated_cost F scripts ≡ whole F scripts
unfolding stated_cost
whole_is F scripts least = at (keys (set_of (names_of scripts))) least
  where
    at : (names : List Name) → 4 ≤ stated_cost_of F scripts names → stated_cost_of F scripts names ≡ 4 + 25 * entries_in [] scripts + sum_by (stated_cost_at F (all_records scripts)) names
    at [] less = absurd (omega (arith, less))
    at (n ∷ names) less = refl

-- ---- the first scripts are carried out

-- These names are noted then, the entries take at most n bytes, and no name outside the area is longer than it was or than is stated so far.
pub record SoFar (F held : Map) (noted : List Name) (n : ℕ) (front : List (List Rec)) : Type 0 where
  pub apart : Apart noted
  pub names : (q : Name) → is_among q noted ≡ is_among q (names_of front)
  pub bytes : n ≤ 25 * entries_in [] front + sum_by (λ q. note_size q (get F q)) noted
  pub longest : (q : Name) → slot_size q (get (outside held) q) ≤ max (slot_size q (get F q)) (greatest_stated q (all_records front))
  pub others : (q : Name) → is_among q noted ≡ false → get (outside held) q ≡ get F q

pub none_so_far : (F held : Map) (noted : List Name) → noted ≡ [] → outside held ≡ F → SoFar F held noted 0 []
none_so_far F held noted none same = record {
  apart = subst Apart (sym none) tt;
  names = λ q. ap (is_among q) none;
  bytes = omega arith;
  longest = λ q. let is : slot_size q (get (outside held) q) ≡ slot_size q (get F q) = ap (λ (m : Map). slot_size q (get m q)) same in omega (arith, is);
  others = λ q free. ap (λ (m : Map). get m q) same;
}

-- names that are noted, and the room of their notes
module _ (F : Map) (noted : List Name) (front rest : List (List Rec)) (apart : Apart noted) (names : (q : Name) → is_among q noted ≡ true → is_among q (names_of front) ≡ true) where
  among_all : (q : Name) → is_among q noted ≡ true → is_among q (keys (set_of (names_of (front ++ rest)))) ≡ true
  among_all q is = among-set (names_of (front ++ rest)) q
      (ap (is_among q) (names-append front rest) ∙ is_among-append q (names_of front) (names_of rest) ∙ or_left (is_among q (names_of front)) (is_among q (names_of rest)) (names q is))

  entries_front : entries_in [] front ≤ entries_in [] (front ++ rest)
  entries_front = omega (arith, entries-append [] front rest)

  -- with what they grow
  all_fit : (n : ℕ) → n ≤ 25 * entries_in [] front + sum_by (λ q. note_size q (get F q)) noted
      → 4 + n + sum_by (λ q. greatest_stated q (all_records (front ++ rest)) - slot_size q (get F q)) noted ≤ whole F (front ++ rest)
  all_fit n bytes =
      let cost = sum_both (λ q. note_size q (get F q)) (λ q. greatest_stated q (all_records (front ++ rest)) - slot_size q (get F q)) noted in
      let most = sum_among (stated_cost_at F (all_records (front ++ rest))) noted (keys (set_of (names_of (front ++ rest)))) apart among_all in
      omega (arith, bytes, cost, most, entries_front)

  pub notes_fit : (n : ℕ) → n ≤ 25 * entries_in [] front + sum_by (λ q. note_size q (get F q)) noted → 4 + n ≤ whole F (front ++ rest)
  notes_fit n bytes = omega (arith, all_fit n bytes)

-- ---- a script more

module _ (F held : Map) (noted : List Name) (n : ℕ) (front : List (List Rec)) (rs : List Rec) (so_far : SoFar F held noted n front) (out : AreOutside (touched_names rs)) where
  abbrev new : List Name
  new = new_names noted (touched_names rs)

  all_apart : Apart (noted ++ new)
  all_apart = new_apart noted (touched_names rs) so_far.apart

  all_names : (q : Name) → is_among q (noted ++ new) ≡ is_among q (names_of (front ++ rs ∷ []))
  all_names q =
      among-new noted (touched_names rs) q
      ∙ ap (λ (b : Bool). b || is_among q (touched_names rs)) (so_far.names q)
      ∙ ap (λ (b : Bool). is_among q (names_of front) || b) (is_among-touched rs q ∙ ap (λ (l : List Rec). is_among q (map name_at l)) (sym (nothing_more rs)))
      ∙ sym (ap (is_among q) (names-append front (rs ∷ [])) ∙ is_among-append q (names_of front) (names_of (rs ∷ [])))

  -- a name that is noted now holds what it held at first
  new_held : (q : Name) → is_among q new ≡ true → get held q ≡ get F q
  new_held q is =
      let free = last_unseen noted new q all_apart is in
      let at_last : (is_among q noted || is_among q (touched_names rs)) ≡ true = sym (among-new noted (touched_names rs) q) ∙ is_among-append q noted new ∙ or_right (is_among q noted) (is_among q new) is in
      let touched : is_among q (touched_names rs) ≡ true = sym (ap (λ (b : Bool). b || is_among q (touched_names rs)) free) ∙ at_last in
      held_outside held q (outside_at (touched_names rs) q out touched) ∙ so_far.others q free

  new_notes : length (spelled (notes_for held new)) ≡ sum_by (λ q. note_size q (get F q)) new
  new_notes = notes_size held new ∙ sum_on (λ q. note_size q (get held q)) (λ q. note_size q (get F q)) new (λ q is. ap (note_size q) (new_held q is))

  -- where all names are known none is new
  known_none : known (names_of front) rs ≡ true → new ≡ []
  known_none all = none_new noted (touched_names rs) (λ q is. so_far.names q ∙ all_at (λ q. is_among q (names_of front)) (map name_at rs) all q (sym (is_among-touched rs q) ∙ is))

  entry : entry_size (notes_for held new) ≤ 25 * cond (known (names_of front) rs) 0 1 + sum_by (λ q. note_size q (get F q)) new
  entry = at (known (names_of front) rs) refl new refl
    where
      at : (b : Bool) → known (names_of front) rs ≡ b → (l : List Name) → new ≡ l → entry_size (notes_for held new) ≤ 25 * cond (known (names_of front) rs) 0 1 + sum_by (λ q. note_size q (get F q)) new
      at b is [] none = let nothing : entry_size (notes_for held new) ≡ 0 = ap (λ (l : List Name). entry_size (notes_for held l)) none in omega (arith, nothing)
      at true is (x ∷ l) some = let clash : x ∷ l ≡ [] = sym some ∙ known_none is in absurd (cc)
      at false is (x ∷ l) some =
          let one : cond {A = ℕ} (known (names_of front) rs) 0 1 ≡ 1 = ap (λ (b : Bool). cond {A = ℕ} b 0 1) is in
          let size_is : entry_size (notes_for held new) ≡ 25 + length (spelled (notes_for held new)) =
          ap (λ (l : List Name). entry_size (notes_for held l)) some ∙ sym (ap (λ (l : List Name). 25 + length (spelled (notes_for held l))) some) in
          omega (arith, one, size_is, new_notes)

  pub next_bytes : n + entry_size (notes_for held new) ≤ 25 * entries_in [] (front ++ rs ∷ []) + sum_by (λ q. note_size q (get F q)) (noted ++ new)
  next_bytes =
      let bytes = so_far.bytes in
      omega (arith, bytes, entry, entries-append [] front (rs ∷ []), sum_by-append (λ q. note_size q (get F q)) noted new)

  pub next_fits : (rest : List (List Rec)) → 4 + (n + entry_size (notes_for held new)) ≤ whole F ((front ++ rs ∷ []) ++ rest)
  next_fits rest = notes_fit F (noted ++ new) (front ++ rs ∷ []) rest all_apart (λ q is. sym (all_names q) ∙ is) (n + entry_size (notes_for held new)) next_bytes

  pub next_so_far : (held' : Map) → All MayCarry rs → ((q : Name) → is_among q (touched_names rs) ≡ false → get (outside held') q ≡ get (outside held) q) → ((q : Name) → IsNoLonger held rs held' q)
      → SoFar F held' (noted ++ new) (n + entry_size (notes_for held new)) (front ++ rs ∷ [])
  next_so_far held' may others longest = record {
    apart = all_apart;
    names = all_names;
    bytes = next_bytes;
    longest = λ q.
        let grown : greatest_stated q (all_records (front ++ rs ∷ [])) ≡ max (greatest_stated q (all_records front)) (greatest_stated q rs) =
        ap (greatest_stated q) (records-append front (rs ∷ []) ∙ ap (λ (l : List Rec). all_records front ++ l) (nothing_more rs)) ∙ greatest-append (all_records front) rs q in
        omega (arith, longest q, so_far.longest q, grown, same_greatest rs q (recursion_from_All MayCarry rs may));
    others = λ q free. at q free (is_among q noted) refl (is_among q (touched_names rs)) refl;
  }
    where
      at : (q : Name) → is_among q (noted ++ new) ≡ false → (a : Bool) → is_among q noted ≡ a → (b : Bool) → is_among q (touched_names rs) ≡ b → get (outside held') q ≡ get F q
      at q free false a false b = others q b ∙ so_far.others q a
      at q free true a b is = let clash : true ≡ false = sym (among-new noted (touched_names rs) q ∙ ap (λ (x : Bool). x || is_among q (touched_names rs)) a) ∙ free in absurd (cc)
      at q free false a true b = let clash : true ≡ false = sym (among-new noted (touched_names rs) q ∙ or_right (is_among q noted) (is_among q (touched_names rs)) b) ∙ free in absurd (cc)

  -- what the script may come to fits beside the former map
  pub script_fits : (rest : List (List Rec)) → size (area_of held) ≤ 4 + n → All MayCarry rs → most_held held noted rs ≤ size F + whole F ((front ++ rs ∷ []) ++ rest)
  script_fits rest area may =
      let same = same_greatest rs in
      let carried = recursion_from_All MayCarry rs may in
      let grows = growth_sum (outside held) rs (touched_names rs) in
      let among = sum_among (λ q. greatest rs q - slot_size q (get (outside held) q)) (touched_names rs) (noted ++ new) (touched_apart rs) (λ q is. among-new noted (touched_names rs) q ∙ or_right (is_among q noted) (is_among q (touched_names rs)) is) in
      let most = grown_sum (greatest rs) (λ q. greatest_stated q (all_records ((front ++ rs ∷ []) ++ rest))) F (noted ++ new) (outside held) all_apart
      (λ q. omega (arith, same q carried, behind q))
      (λ q free. let is : slot_size q (get (outside held) q) ≡ slot_size q (get F q) = ap (slot_size q) (so_far.others q (unseen q free (is_among q noted) refl)) in omega (arith, is))
      (λ q held_q. omega (arith, so_far.longest q, before q)) in
      let notes = all_fit F (noted ++ new) (front ++ rs ∷ []) rest all_apart (λ q is. sym (all_names q) ∙ is) (n + entry_size (notes_for held new)) next_bytes in
      omega (arith, held_size held, area, grows, among, most, notes)
    where
      split : (q : Name) → greatest_stated q (all_records ((front ++ rs ∷ []) ++ rest)) ≡ max (max (greatest_stated q (all_records front)) (greatest_stated q rs)) (greatest_stated q (all_records rest))
      split q =
          ap (greatest_stated q) (records-append (front ++ rs ∷ []) rest ∙ ap (λ (l : List Rec). l ++ all_records rest) (records-append front (rs ∷ []) ∙ ap (λ (l : List Rec). all_records front ++ l) (nothing_more rs)))
          ∙ greatest-append (all_records front ++ rs) (all_records rest) q ∙ ap (λ (k : ℕ). max k (greatest_stated q (all_records rest))) (greatest-append (all_records front) rs q)

      behind : (q : Name) → greatest_stated q rs ≤ greatest_stated q (all_records ((front ++ rs ∷ []) ++ rest))
      behind q = omega (arith, split q)

      before : (q : Name) → greatest_stated q (all_records front) ≤ greatest_stated q (all_records ((front ++ rs ∷ []) ++ rest))
      before q = omega (arith, split q)

      unseen : (q : Name) → is_among q (noted ++ new) ≡ false → (b : Bool) → is_among q noted ≡ b → is_among q noted ≡ false
      unseen q free true is = let clash : true ≡ false = sym (is_among-append q noted new ∙ ap (λ (b : Bool). b || is_among q new) is) ∙ free in absurd (cc)
      unseen q free false is = is
