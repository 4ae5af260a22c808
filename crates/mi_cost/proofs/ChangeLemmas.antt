-- Changes that name each name at most once: which names their spelling changes, and how great these get.
use Rattle.std.proofs.Common.{◌≡◌, ℕ, ◌+◌, ◌≤◌, Bool, true, false, cond, ◌||◌, List, [], ◌∷◌, ◌++◌, Option, Some, None, refl, sym, ap, ◌∙◌, arith}
use Rattle.std.specs.Prelude.{◌&&◌, not, max, option_map}
use Rattle.std.specs.FinMap.{get}
use Rattle.std.specs.Str.{bytes_eq}
use Rattle.std.proofs.lemmas.Bool.{or_left}
use Rattle.std.proofs.lemmas.Slice.Eq.{bytes_eq-Decides}
use Rattle.mi_text.specs.Maps.{Name, Map, same_name, is_among, set_to}
use Rattle.mi_text.proofs.MapLemmas.{from_same, get-set_to}
use Rattle.mi_volume.specs.Maps.{slot_size}
use Rattle.mi_base.specs.declared.entry.Entry.{Entry}
use Rattle.mi_base.specs.Machine.{Machine, volume_of}
use Rattle.mi_base.specs.Spelling.{record_of}
use Rattle.mi_base.proofs.MachineLemmas.{get-volume_of}
use Rattle.mi_changes.specs.Changes.{Change, written}
use Rattle.mi_script.specs.Spelled.{same_record, writes_file, recorded, is_left_out, spelled, spelled_changes}
use Rattle.mi_script.proofs.SpellLemmas.{written-spelled_one}
use Rattle.mi_model.specs.Cost.{record_at, size_at}
use Rattle.mi_cost.proofs.CostOfChanges.{Segment, names_changed, greatest_size}
use Rattle.mi_model.specs.Plain.{times}
use Rattle.mi_cost.proofs.NameLemmas.{same_truth}

-- ---- a name that no change names

isnt_it : (b : Bool) (n : ℕ) → cond b (1 + n) n ≡ 0 → b ≡ false
isnt_it true n e = absurd (omega arith)
isnt_it false n e = refl

none_behind : (b : Bool) (n : ℕ) → cond b (1 + n) n ≡ 0 → n ≡ 0
none_behind true n e = omega arith
none_behind false n e = e

pub record NoneNamed {X : Type 0} (q : Name) (c : Change X) (cs : List (Change X)) : Type 0 where
  pub first : same_name q c.at ≡ false
  pub rest : times q cs ≡ 0

unnamed : {X : Type 0} → (q : Name) (c : Change X) (cs : List (Change X)) → times q (c ∷ cs) ≡ 0 → NoneNamed q c cs
unnamed q c cs none = record { first = isnt_it (same_name q c.at) (times q cs) none; rest = none_behind (same_name q c.at) (times q cs) none }

pub no_name : {X : Type 0} → (q : Name) (cs : List (Change X)) → times q cs ≡ 0 → is_among q (names_changed cs) ≡ false
no_name q [] none = refl
no_name q (c ∷ cs) none = let e = unnamed q c cs none in rw (e.first) (no_name q cs e.rest)

pub stays : (m : Machine) (q : Name) (cs : List (Change Entry)) → times q cs ≡ 0 → get (written m cs) q ≡ get m q
stays m q [] none = refl
stays m q (c ∷ cs) none =
    let e = unnamed q c cs none in
    stays (set_to m c.at c.after) q cs e.rest ∙ get-set_to m c.at c.after q ∙ ap (λ (b : Bool). cond b c.after (get m q)) e.first

-- what holds of the rest holds with a change's spelling before it, where the change itself makes no difference
pub passes : {A : Type 0} → (F : Segment → A) (d : Map (List ℕ)) (c : Change Entry) (rest : Segment) → F (recorded c ∷ rest) ≡ F rest → F (spelled d c ++ rest) ≡ F rest
passes F d c rest e = elim (is_left_out (recorded c) (get d c.at)) as (λ b. F (cond b [] (recorded c ∷ []) ++ rest) ≡ F rest) [ true ↦ refl | false ↦ e ]

pub none_spelled : (d : Map (List ℕ)) (q : Name) (cs : List (Change Entry)) → times q cs ≡ 0 → times q (spelled_changes d cs) ≡ 0
none_spelled d q [] none = refl
none_spelled d q (c ∷ cs) none =
    let e = unnamed q c cs none in
    passes (times q) d c (spelled_changes (written d (spelled d c)) cs) (ap (λ (b : Bool). cond b (1 + times q (spelled_changes (written d (spelled d c)) cs)) (times q (spelled_changes (written d (spelled d c)) cs))) e.first)
    ∙ none_spelled (written d (spelled d c)) q cs e.rest

pub no_size : (q : Name) (cs : Segment) → times q cs ≡ 0 → greatest_size q cs ≡ 0
no_size q [] none = refl
no_size q (c ∷ cs) none = let e = unnamed q c cs none in rw (e.first) (no_size q cs e.rest)

-- ---- records

same_turned : (a b : Option (List ℕ)) → same_record a b ≡ same_record b a
same_turned None None = refl
same_turned None (Some b) = refl
same_turned (Some a) None = refl
same_turned (Some a) (Some b) = same_truth (bytes_eq a b) (bytes_eq b a) (λ e. (bytes_eq-Decides b a).1 (sym ((bytes_eq-Decides a b).0 e))) (λ e. (bytes_eq-Decides a b).1 (sym ((bytes_eq-Decides b a).0 e)))

same_itself : (a : Option (List ℕ)) → same_record a a ≡ true
same_itself None = refl
same_itself (Some a) = (bytes_eq-Decides a a).1 refl

writes_record : (q : Name) (o : Option Entry) → writes_file q (option_map record_of o) ≡ writes_file q o
writes_record q None = refl
writes_record q (Some e) = refl

-- ---- the names

-- what the first change of a name spells, where no later one names it
first_named : (d : Map (List ℕ)) (q : Name) (c : Change Entry) (rest : Segment) → same_name q c.at ≡ true → is_among q (names_changed rest) ≡ false
    → is_among q (names_changed (spelled d c ++ rest)) ≡ not (is_left_out (recorded c) (get d c.at))
first_named d q c rest is none =
    elim (is_left_out (recorded c) (get d c.at)) as (λ b. is_among q (names_changed (cond b [] (recorded c ∷ []) ++ rest)) ≡ not b) [
      | true ↦ none
      | false ↦ or_left (same_name q c.at) (is_among q (names_changed rest)) is
    ]

turned_test : (w s : Bool) → not (not w && s) ≡ (not s || w)
turned_test true true = refl
turned_test true false = refl
turned_test false true = refl
turned_test false false = refl

-- the record that stands at a name behind its only change
abbrev behind : Machine → Change Entry → List (Change Entry) → Machine
behind m c cs = written (set_to m c.at c.after) cs

left_by : (m : Machine) (q : Name) (c : Change Entry) (cs : List (Change Entry)) → same_name q c.at ≡ true → times q cs ≡ 0 → get (behind m c cs) q ≡ c.after
left_by m q c cs is none = stays (set_to m c.at c.after) q cs none ∙ get-set_to m c.at c.after q ∙ ap (λ (b : Bool). cond b c.after (get m q)) is

kept_by : (m : Machine) (q : Name) (c : Change Entry) → same_name q c.at ≡ false → get (set_to m c.at c.after) q ≡ get m q
kept_by m q c isnt = get-set_to m c.at c.after q ∙ ap (λ (b : Bool). cond b c.after (get m q)) isnt

left_out_at : (m : Machine) (q : Name) (c : Change Entry) → same_name q c.at ≡ true
    → is_left_out (recorded c) (get (volume_of m) c.at) ≡ (not (writes_file q c.after) && same_record (option_map record_of c.after) (record_at m q))
left_out_at m q c is =
    ap (λ n. is_left_out (record { at = n; after = option_map record_of c.after }) (get (volume_of m) n)) (sym (from_same q c.at is))
    ∙ ap (λ (w : Bool). not w && same_record (option_map record_of c.after) (get (volume_of m) q)) (writes_record q c.after)
    ∙ ap (λ (o : Option (List ℕ)). not (writes_file q c.after) && same_record (option_map record_of c.after) o) (get-volume_of m q)

-- the spelling of changes, behind that of the first one
spelled_behind : (m : Machine) (c : Change Entry) (cs : List (Change Entry)) → spelled_changes (volume_of m) (c ∷ cs) ≡ spelled (volume_of m) c ++ spelled_changes (volume_of (set_to m c.at c.after)) cs
spelled_behind m c cs = ap (λ d. spelled (volume_of m) c ++ spelled_changes d cs) (written-spelled_one m c)

-- a name is changed where its record differs, or a file is written there
abbrev pub differs : Machine → Machine → Name → Bool → Bool
differs m n q is_named = not (same_record (record_at m q) (record_at n q)) || (is_named && writes_file q (get n q))

one_name : (n : ℕ) → 1 + n ≤ 1 → n ≡ 0
one_name n le = omega arith

named_first : (m : Machine) (q : Name) (c : Change Entry) (cs : List (Change Entry)) → same_name q c.at ≡ true → times q cs ≡ 0
    → is_among q (names_changed (spelled_changes (volume_of m) (c ∷ cs))) ≡ differs m (behind m c cs) q true
named_first m q c cs is none =
    let n = set_to m c.at c.after in
    ap (λ s. is_among q (names_changed s)) (spelled_behind m c cs)
    ∙ first_named (volume_of m) q c (spelled_changes (volume_of n) cs) is (no_name q (spelled_changes (volume_of n) cs) (none_spelled (volume_of n) q cs none))
    ∙ ap not (left_out_at m q c is)
    ∙ turned_test (writes_file q c.after) (same_record (option_map record_of c.after) (record_at m q))
    ∙ ap (λ (s : Bool). not s || writes_file q c.after) (same_turned (option_map record_of c.after) (record_at m q))
    ∙ ap (λ (o : Option Entry). not (same_record (record_at m q) (option_map record_of o)) || writes_file q o) (sym (left_by m q c cs is none))

pub names_are : (m : Machine) (q : Name) (cs : List (Change Entry)) → times q cs ≤ 1
    → is_among q (names_changed (spelled_changes (volume_of m) cs)) ≡ differs m (written m cs) q (is_among q (names_changed cs))
names_are m q [] few = ap (λ (s : Bool). not s || false) (sym (same_itself (record_at m q)))
names_are m q (c ∷ cs) few =
    elim (same_name q c.at) as (λ b. same_name q c.at ≡ b → cond b (1 + times q cs) (times q cs) ≤ 1
    → is_among q (names_changed (spelled_changes (volume_of m) (c ∷ cs))) ≡ differs m (behind m c cs) q (b || is_among q (names_changed cs))) [
      | true ↦ λ is le. named_first m q c cs is (one_name (times q cs) le)
      | false ↦ λ isnt le.
          let n = set_to m c.at c.after in
          ap (λ s. is_among q (names_changed s)) (spelled_behind m c cs)
          ∙ passes (λ s. is_among q (names_changed s)) (volume_of m) c (spelled_changes (volume_of n) cs) (ap (λ (b : Bool). b || is_among q (names_changed (spelled_changes (volume_of n) cs))) isnt)
          ∙ names_are n q cs le
          ∙ ap (λ (o : Option Entry). not (same_record (option_map record_of o) (record_at (behind m c cs) q)) || (is_among q (names_changed cs) && writes_file q (get (behind m c cs) q))) (kept_by m q c isnt)
    ] refl few

-- ---- the sizes

size_first : (m : Machine) (q : Name) (c : Change Entry) (cs : List (Change Entry)) → same_name q c.at ≡ true → times q cs ≡ 0
    → max (size_at m q) (greatest_size q (spelled_changes (volume_of m) (c ∷ cs))) ≡ max (size_at m q) (size_at (behind m c cs) q)
size_first m q c cs is none =
    let n = set_to m c.at c.after in
    let rest = spelled_changes (volume_of n) cs in
    let nothing : greatest_size q rest ≡ 0 = no_size q rest (none_spelled (volume_of n) q cs none) in
    let now : size_at (behind m c cs) q ≡ slot_size q (option_map record_of c.after) = ap (λ (o : Option Entry). slot_size q (option_map record_of o)) (left_by m q c cs is none) in
    ap (λ s. max (size_at m q) (greatest_size q s)) (spelled_behind m c cs)
    ∙ elim (is_left_out (recorded c) (get (volume_of m) c.at)) as (λ b.
    written (volume_of m) (cond b [] (recorded c ∷ [])) ≡ volume_of n
    → max (size_at m q) (greatest_size q (cond b [] (recorded c ∷ []) ++ rest)) ≡ max (size_at m q) (size_at (behind m c cs) q)) [
      | true ↦ λ e.
          let before : size_at m q ≡ size_at (behind m c cs) q =
          ap (slot_size q) (sym (get-volume_of m q) ∙ ap (λ d. get d q) e ∙ get-volume_of n q) ∙ ap (λ (o : Option Entry). slot_size q (option_map record_of o)) (sym (stays n q cs none)) in
          omega (arith, nothing, before)
      | false ↦ λ e.
          ap (λ (b : Bool). max (size_at m q) (cond b (max (slot_size q (option_map record_of c.after)) (greatest_size q rest)) (greatest_size q rest))) is
          ∙ omega (arith, nothing, now)
    ] (written-spelled_one m c)

pub sizes_are : (m : Machine) (q : Name) (cs : List (Change Entry)) → times q cs ≤ 1
    → max (size_at m q) (greatest_size q (spelled_changes (volume_of m) cs)) ≡ max (size_at m q) (size_at (written m cs) q)
sizes_are m q [] few = omega arith
sizes_are m q (c ∷ cs) few =
    elim (same_name q c.at) as (λ b. same_name q c.at ≡ b → cond b (1 + times q cs) (times q cs) ≤ 1
    → max (size_at m q) (greatest_size q (spelled_changes (volume_of m) (c ∷ cs))) ≡ max (size_at m q) (size_at (behind m c cs) q)) [
      | true ↦ λ is le. size_first m q c cs is (one_name (times q cs) le)
      | false ↦ λ isnt le.
          let n = set_to m c.at c.after in
          let rest = spelled_changes (volume_of n) cs in
          let before : size_at n q ≡ size_at m q = ap (λ (o : Option Entry). slot_size q (option_map record_of o)) (kept_by m q c isnt) in
          ap (λ s. max (size_at m q) (greatest_size q s)) (spelled_behind m c cs)
          ∙ ap (max (size_at m q)) (passes (greatest_size q) (volume_of m) c rest (ap (λ (b : Bool). cond b (max (slot_size q (option_map record_of c.after)) (greatest_size q rest)) (greatest_size q rest)) isnt))
          ∙ ap (λ (s : ℕ). max s (greatest_size q rest)) (sym before)
          ∙ sizes_are n q cs le
          ∙ ap (λ (s : ℕ). max s (size_at (behind m c cs) q)) before
    ] refl few
