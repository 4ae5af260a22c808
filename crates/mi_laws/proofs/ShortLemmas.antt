-- Whether settling is short of room, and at which name, is decided by the notes.
use Rattle.std.proofs.Common.{◌≡◌, ◌⊎◌, inl, inr, ℕ, zero, suc, ◌+◌, ◌-◌, ◌≤◌, ◌<◌, Bool, true, false, cond, ◌||◌, List, [], ◌∷◌, ◌++◌, Option, Some, None, Result, Ok, Err, refl, sym, ap, subst, ◌∙◌, arith}
use Rattle.std.proofs.lemmas.Bool.{cases_lt}
use Rattle.std.proofs.lemmas.Bool.Decides.{nat_tests}
use Rattle.std.specs.Prelude.{◌&&◌, not, nat_lt, is_none}
use Rattle.std.specs.FinMap.{get, retain_keys}
use Rattle.mi_text.specs.Maps.{Name, same_name}
use Rattle.mi_text.proofs.MapLemmas.{same, from_same, same_itself, get-retained}
use Rattle.mi_volume.specs.Maps.{Map, size, slot_size, Fits, Exceeds}
use Rattle.mi_undo.specs.Names.{most_entries, entry_name}
use Rattle.mi_undo.specs.Notes.{Note, note_of}
use Rattle.mi_undo.specs.Reading.{IsUnread, first_shut}
use Rattle.mi_undo.specs.Short.{IsBase, old_sizes, IsShort}
use Rattle.mi_undo.specs.Stands.{noted}

or_first : (a b : Bool) → a ≡ true → (a || b) ≡ true
or_first true b e = refl
or_first false b e = cc

or_second : (a b : Bool) → b ≡ true → (a || b) ≡ true
or_second true b e = refl
or_second false b e = e

-- ---- the entries that aren't read

abbrev is_entry_from : ℕ → ℕ → Name → Bool
is_entry_from k zero q = false
is_entry_from k (suc fuel) q = same_name q (entry_name k) || is_entry_from (suc k) fuel q

entry_is : (k fuel : ℕ) (q : Name) → is_entry_from k fuel q ≡ true → (j : ℕ) × ((k ≤ j) × ((j < k + fuel) × (q ≡ entry_name j)))
entry_is k zero q e = cc
entry_is k (suc fuel) q e = by (same_name q (entry_name k)) refl e (entry_is (suc k) fuel q)
  where
    by : (b : Bool) → same_name q (entry_name k) ≡ b → (b || is_entry_from (suc k) fuel q) ≡ true → (is_entry_from (suc k) fuel q ≡ true → (j : ℕ) × ((suc k ≤ j) × ((j < suc k + fuel) × (q ≡ entry_name j))))
        → (j : ℕ) × ((k ≤ j) × ((j < k + suc fuel) × (q ≡ entry_name j)))
    by true is e later = (k, (omega arith, (omega arith, from_same q (entry_name k) is)))
    by false is e later = let found = later e in let above = found.1.0 in let below = found.1.1.0 in (found.0, (omega (arith, above), (omega (arith, below), found.1.1.1)))

is_entry : (k fuel : ℕ) (q : Name) (j : ℕ) → k ≤ j → j < k + fuel → q ≡ entry_name j → is_entry_from k fuel q ≡ true
is_entry k zero q j above below is = absurd (omega (arith, above, below))
is_entry k (suc fuel) q j above below is = elim (cases_lt k j) [
  | inl later ↦ or_second (same_name q (entry_name k)) (is_entry_from (suc k) fuel q) (is_entry (suc k) fuel q j (omega (arith, later)) (omega (arith, below)) is)
  | inr here ↦
      let at : j ≡ k = omega (arith, above, here) in
      or_first (same_name q (entry_name k)) (is_entry_from (suc k) fuel q) (subst (λ n. same_name q (entry_name n) ≡ true) at (ap (same_name q) (sym is) ∙ same_itself q))
]

module _ (n : ℕ) where
  abbrev is_unread : Name → Bool
  is_unread q = is_entry_from n (most_entries - n) q

  unread_is : (q : Name) → is_unread q ≡ true → IsUnread n q
  unread_is q e = let found = entry_is n (most_entries - n) q e in let above = found.1.0 in let below = found.1.1.0 in (found.0, (above, (omega (arith, above, below), found.1.1.1)))

  is_unread_so : (q : Name) → IsUnread n q → is_unread q ≡ true
  is_unread_so q u = let above = u.1.0 in let below = u.1.1.0 in is_entry n (most_entries - n) q u.0 above (omega (arith, above, below)) u.1.1.1

  not_unread : (q : Name) → is_unread q ≡ false → ¬ IsUnread n q
  not_unread q isnt u = let both = sym isnt ∙ is_unread_so q u in cc

-- ---- what a map holds besides: there is one such map

module _ (d : Map) (ns : List Note) where
  abbrev shut : ℕ
  shut = first_shut d 0 most_entries

  abbrev keeps : Name → Bool
  keeps q = is_none (note_of ns q) && not (is_unread shut q)

  abbrev base_of : Map
  base_of = retain_keys d keeps

  never : (a : Bool) (o : Option (List ℕ)) → cond (a && false) o None ≡ None
  never true o = refl
  never false o = refl

  always : (a b : Bool) (o : Option (List ℕ)) → a ≡ true → b ≡ false → cond (a && not b) o None ≡ o
  always true false o ea eb = refl
  always true true o ea eb = cc
  always false b o ea eb = cc

  unread_false : (q : Name) → ¬ IsUnread shut q → is_unread shut q ≡ false
  unread_false q isnt = by (is_unread shut q) refl
    where
      by : (b : Bool) → is_unread shut q ≡ b → b ≡ false
      by true is = absurd (isnt (unread_is shut q is))
      by false is = refl

  is_base : IsBase d ns base_of
  is_base = record {
    away = λ q w is. get-retained d keeps q ∙ ap (λ (o : Option (Option (List ℕ))). cond (is_none o && not (is_unread shut q)) (get d q) None) is;
    unread = λ q u. get-retained d keeps q ∙ ap (λ b. cond (is_none (note_of ns q) && not b) (get d q) None) (is_unread_so shut q u) ∙ never (is_none (note_of ns q)) (get d q);
    others = λ q none isnt. get-retained d keeps q ∙ always (is_none (note_of ns q)) (is_unread shut q) (get d q) (ap is_none none) (unread_false q isnt);
  }

  same_base : (a b : Map) → IsBase d ns a → IsBase d ns b → a ≡ b
  same_base a b base other = same a b (λ q. by q (note_of ns q) refl (is_unread shut q) refl)
    where
      by : (q : Name) (o : Option (Option (List ℕ))) → note_of ns q ≡ o → (u : Bool) → is_unread shut q ≡ u → get a q ≡ get b q
      by q (Some w) is u unread = base.away q w is ∙ sym (other.away q w is)
      by q None is true unread = base.unread q (unread_is shut q unread) ∙ sym (other.unread q (unread_is shut q unread))
      by q None is false unread = base.others q is (not_unread shut q unread) ∙ sym (other.others q is (not_unread shut q unread))

-- ---- the first note that passes the capacity

abbrev exceeds : Option ℕ → ℕ → Bool
exceeds None n = false
exceeds (Some c) n = nat_lt c n

exceeds_is : (o : Option ℕ) (n : ℕ) → exceeds o n ≡ true → Exceeds o n
exceeds_is None n e = cc
exceeds_is (Some c) n e = grind (arith, nat_tests, e)

is_exceeds : (o : Option ℕ) (n : ℕ) → Exceeds o n → exceeds o n ≡ true
is_exceeds None n over = absurd over
is_exceeds (Some c) n over = grind (arith, nat_tests, over)

fits_so : (o : Option ℕ) (n : ℕ) → exceeds o n ≡ false → Fits o n
fits_so None n e = tt
fits_so (Some c) n e = grind (arith, nat_tests, e)

-- what fits with more doesn't pass
fits_less : (o : Option ℕ) (n more : ℕ) → Fits o (n + more) → exceeds o n ≡ false
fits_less None n more fit = refl
fits_less (Some c) n more fit = grind (arith, nat_tests, fit)

-- over this many bytes, the notes in front fit, and with this one they don't
record IsSplit (capacity : Option ℕ) (n : ℕ) (front : List Note) (note : Note) : Type 0 where
  before : (front ≡ []) ⊎ Fits capacity (n + old_sizes front)
  passes : Exceeds capacity (n + old_sizes (front ++ note ∷ []))

record Splits (capacity : Option ℕ) (n : ℕ) (ns : List Note) (name : Name) : Type 0 where
  front : List Note
  note : Note
  rest : List Note
  whole : ns ≡ front ++ note ∷ rest
  is_name : note.name ≡ name
  split : IsSplit capacity n front note

module _ (capacity : Option ℕ) where
  abbrev short_in : ℕ → List Note → Option Name
  short_in n [] = None
  short_in n (x ∷ ns) = cond (exceeds capacity (n + slot_size x.name x.was)) (Some x.name) (short_in (n + slot_size x.name x.was) ns)

  more : (n k m : ℕ) → (n + k) + m ≡ n + (k + m)
  more n k m = omega arith

  -- with a note that fits in front of it
  split_behind : (n : ℕ) (x : Note) (front : List Note) (note : Note) → Fits capacity (n + slot_size x.name x.was) → IsSplit capacity (n + slot_size x.name x.was) front note → IsSplit capacity n (x ∷ front) note
  split_behind n x front note fit s = record {
    before = inr (by front s.before);
    passes = subst (Exceeds capacity) (more n (slot_size x.name x.was) (old_sizes (front ++ note ∷ []))) s.passes;
  }
    where
      by : (front : List Note) → (front ≡ []) ⊎ Fits capacity ((n + slot_size x.name x.was) + old_sizes front) → Fits capacity (n + (slot_size x.name x.was + old_sizes front))
      by front (inl none) = subst (λ (f : List Note). Fits capacity (n + (slot_size x.name x.was + old_sizes f))) (sym none) (subst (Fits capacity) (more n (slot_size x.name x.was) 0) (subst (Fits capacity) (zero_more (n + slot_size x.name x.was)) fit))
        where
          zero_more : (k : ℕ) → k ≡ k + 0
          zero_more k = omega arith
      by front (inr fits) = subst (Fits capacity) (more n (slot_size x.name x.was) (old_sizes front)) fits

  splits_so : (n : ℕ) (ns : List Note) (name : Name) → short_in n ns ≡ Some name → Splits capacity n ns name
  splits_so n [] name e = cc
  splits_so n (x ∷ ns) name e = by (exceeds capacity (n + slot_size x.name x.was)) refl e (splits_so (n + slot_size x.name x.was) ns name)
    where
      zero_more : (k m : ℕ) → k + m ≡ k + (m + 0)
      zero_more k m = omega arith

      by : (b : Bool) → exceeds capacity (n + slot_size x.name x.was) ≡ b → cond b (Some x.name) (short_in (n + slot_size x.name x.was) ns) ≡ Some name
          → (short_in (n + slot_size x.name x.was) ns ≡ Some name → Splits capacity (n + slot_size x.name x.was) ns name) → Splits capacity n (x ∷ ns) name
      by true over e later = record {
        front = [];
        note = x;
        rest = ns;
        whole = refl;
        is_name = some_name x.name name e;
        split = record { before = inl refl; passes = subst (Exceeds capacity) (zero_more n (slot_size x.name x.was)) (exceeds_is capacity (n + slot_size x.name x.was) over) };
      }
        where
          some_name : (a b : Name) → Some a ≡ Some b → a ≡ b
          some_name a b e = cc
      by false over e later =
          let s = later e in
          record { front = x ∷ s.front; note = s.note; rest = s.rest; whole = ap (λ (l : List Note). x ∷ l) s.whole; is_name = s.is_name; split = split_behind n x s.front s.note (fits_so capacity (n + slot_size x.name x.was) over) s.split }

  first_split : (n : ℕ) (front : List Note) (note : Note) (rest : List Note) → IsSplit capacity n front note → short_in n (front ++ note ∷ rest) ≡ Some note.name
  first_split n [] note rest s = ap (λ b. cond b (Some note.name) (short_in (n + slot_size note.name note.was) rest)) (is_exceeds capacity (n + slot_size note.name note.was) (subst (Exceeds capacity) (less n (slot_size note.name note.was)) s.passes))
    where
      less : (k m : ℕ) → k + (m + 0) ≡ k + m
      less k m = omega arith
  first_split n (x ∷ front) note rest s =
      ap (λ b. cond b (Some x.name) (short_in (n + slot_size x.name x.was) (front ++ note ∷ rest))) (fits_less capacity (n + slot_size x.name x.was) (old_sizes front) fit)
      ∙ first_split (n + slot_size x.name x.was) front note rest (record { before = inr fit; passes = subst (Exceeds capacity) (sym (more n (slot_size x.name x.was) (old_sizes (front ++ note ∷ [])))) s.passes })
    where
      by : (x ∷ front ≡ []) ⊎ Fits capacity (n + (slot_size x.name x.was + old_sizes front)) → Fits capacity ((n + slot_size x.name x.was) + old_sizes front)
      by (inl none) = cc
      by (inr fits) = subst (Fits capacity) (sym (more n (slot_size x.name x.was) (old_sizes front))) fits

      fit : Fits capacity ((n + slot_size x.name x.was) + old_sizes front)
      fit = by s.before

  -- ---- the name at which a map is short

  abbrev short_by : Map → Result (List Note) (List ℕ) → Option Name
  short_by d (Ok ns) = short_in (size (base_of d ns)) ns
  short_by d (Err bad) = None

  short_is : (d : Map) (r : Result (List Note) (List ℕ)) (name : Name) → noted d ≡ r → short_by d r ≡ Some name → IsShort capacity d name
  short_is d (Err bad) name read e = cc
  short_is d (Ok ns) name read e =
      let s = splits_so (size (base_of d ns)) ns name e in
      record {
        front = s.front;
        note = s.note;
        rest = s.rest;
        read = read ∙ ap (λ (l : List Note). Ok l) s.whole;
        is_name = s.is_name;
        base = base_of d ns;
        is_base = subst (λ (l : List Note). IsBase d l (base_of d ns)) s.whole (is_base d ns);
        before = s.split.before;
        passes = s.split.passes;
      }

  is_short : (d : Map) (name : Name) → IsShort capacity d name → short_by d (noted d) ≡ Some name
  is_short d name s =
      let ns : List Note = s.front ++ s.note ∷ s.rest in
      let same_size : size s.base ≡ size (base_of d ns) = ap size (same_base d ns s.base (base_of d ns) s.is_base (is_base d ns)) in
      let split : IsSplit capacity (size s.base) s.front s.note = record { before = s.before; passes = s.passes } in
      ap (short_by d) s.read
      ∙ first_split (size (base_of d ns)) s.front s.note s.rest (subst (λ n. IsSplit capacity n s.front s.note) same_size split)
      ∙ ap Some s.is_name

-- the first noted name for whose old bytes there is no room
abbrev pub short_name : Option ℕ → Map → Option Name
short_name capacity d = short_by capacity d (noted d)

pub short_name_is : (capacity : Option ℕ) (d : Map) (name : Name) → short_name capacity d ≡ Some name → IsShort capacity d name
short_name_is capacity d name e = short_is capacity d (noted d) name refl e

pub is_short_name : (capacity : Option ℕ) (d : Map) (name : Name) → IsShort capacity d name → short_name capacity d ≡ Some name
is_short_name capacity d name s = is_short capacity d name s
