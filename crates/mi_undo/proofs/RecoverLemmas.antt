-- Recovery has room.
use Rattle.std.proofs.Common.{◌≡◌, ◌≢◌, inl, inr, ⊎_elim, ℕ, zero, suc, ◌+◌, ◌≤◌, ◌<◌, Bool, true, false, cond, List, [], ◌∷◌, ◌++◌, Option, Some, None, Result, Ok, refl, sym, ap, subst, ◌∙◌, arith}
use Rattle.std.specs.FinMap.{get, remove}
use Rattle.mi_volume.specs.Maps.{Map, Fits, size, slot_size}
use Rattle.mi_volume.specs.State.{State, GoesOn}
use Rattle.mi_volume.proofs.MapLemmas.{name_cases, get-remove_same, get-remove_other}
use Rattle.mi_volume.proofs.Moments.{joined, weaker}
use Rattle.mi_volume.proofs.SizeLemmas.{size-remove, size-within}
use Rattle.mi_undo.specs.Names.{marker, entry_name, gate_name, most_entries, is_inside}
use Rattle.mi_undo.specs.Notes.{Note, note_of, are_new}
use Rattle.mi_undo.specs.Stands.{is_one, noted, read_from, put_over, area_of, StandsFor}
use Rattle.mi_undo.specs.Keeps.{IsNoted}
use Rattle.mi_undo.specs.Steps.{Touches}
use Rattle.mi_undo.specs.Reading.{IsUnread, first_shut}
use Rattle.mi_undo.specs.Clear.{StandsPlainly}
use Rattle.mi_undo.specs.Short.{old_sizes, IsShort}
use Rattle.mi_undo.specs.Room.{IsGateSmall, NeverShort, ShortAs, IsReadArea, ReadsAtMost, LeavesAtMost, GoesOnWithRoom}
use Rattle.mi_undo.proofs.NameLemmas.{marker_not_entry, marker_not_gate, gate_not_entry, same_entry}
use Rattle.mi_undo.proofs.NotesOf.{new_outside}
use Rattle.mi_undo.proofs.NoteLemmas.{not_both}
use Rattle.mi_undo.proofs.CloseLemmas.{one_is}
use Rattle.mi_undo.proofs.StandsLemmas.{get-put_over, or_else, unnoted_is}
use Rattle.mi_undo.proofs.OverLemmas.{get-area_of, fits_not_over}
use Rattle.mi_undo.proofs.LawLemmas.{noted_new, noted_is}
use Rattle.mi_undo.proofs.SettleLemmas.{read_same, first_at_most}
use Rattle.mi_undo.proofs.SumLemmas.{one_list, over_sum, old_sizes-append, shut_not_short, not_empty}
use Rattle.mi_undo.proofs.TouchLemmas.{AgreesBeside}
use Rattle.mi_undo.proofs.RoomLemmas.{left_kept, reads_more}

-- where no note is read
pub nothing_noted : (capacity : Option ℕ) (d : Map) → noted d ≡ Ok [] → NeverShort capacity d
nothing_noted capacity d none small name short = not_empty short.front short.rest short.note (sym short.read ∙ none)

open_marker : (capacity : Option ℕ) (d : Map) (name : List ℕ) → IsShort capacity d name → is_one (get d marker) ≡ true
open_marker capacity d name short =
    elim (is_one (get d marker)) as (λ b. is_one (get d marker) ≡ b → b ≡ true) [
      | true ↦ λ is. refl
      | false ↦ λ shut. absurd (shut_not_short capacity d name shut short)
    ] refl

module _ (capacity : Option ℕ) (d F : Map) (n : ℕ) (stands_for : StandsFor F d) (reads : ReadsAtMost n d) (small : IsGateSmall d) (name : List ℕ) (short : IsShort capacity d name) where
  abbrev ns : List Note
  ns = short.front ++ short.note ∷ short.rest

  is_new : are_new [] ns ≡ true
  is_new = noted_new d ns short.read

  unnoted : (q : List ℕ) → is_inside q ≡ true → note_of ns q ≡ None
  unnoted q within = new_outside [] ns is_new q within

  abbrev base : Map
  base = short.base

  abbrev area : Map
  area = remove (area_of base) marker

  at_side : (q : List ℕ) (b : Bool) → is_inside q ≡ b → get (area_of base) q ≡ cond b (get base q) None
  at_side q b is = get-area_of base q ∙ ap (λ c. cond c (get base q) None) is

  is_area : IsReadArea d area
  is_area = record {
    held = λ q within ne read. get-remove_other (area_of base) marker q ne ∙ at_side q true within ∙ short.is_base.others q (unnoted q within) read;
    unread = λ q unread. get-remove_other (area_of base) marker q (λ e. marker_not_entry unread.0 (sym e ∙ unread.1.1.1)) ∙ at_side q true (ap is_inside unread.1.1.1) ∙ short.is_base.unread q unread;
    marker = get-remove_same (area_of base) marker;
    outside = λ q out. get-remove_other (area_of base) marker q (λ e. not_both (is_inside q) (ap is_inside e) out) ∙ at_side q false out;
  }

  area_fits : size (area_of base) ≤ 4 + n
  area_fits =
      let sum = size-remove (area_of base) marker in
      let at_marker : get (area_of base) marker ≡ Some (1 ∷ []) = at_side marker true refl ∙ short.is_base.others marker (unnoted marker refl) (λ unread. marker_not_entry unread.0 unread.1.1.1) ∙ one_is (get d marker) (open_marker capacity d name short) in
      let slot : slot_size marker (get (area_of base) marker) ≡ 4 = ap (slot_size marker) at_marker in
      let rest = reads small area is_area in
      omega (arith, sum, slot, rest)

  all_fit : size (put_over ns base) ≤ size F + size (area_of base)
  all_fit = size-within (put_over ns base) F (area_of base) (λ q. by_note q (note_of ns q) refl)
    where
      in_former : (q : List ℕ) → get (put_over ns base) q ≡ get F q → slot_size q (get (put_over ns base) q) ≤ slot_size q (get F q) + slot_size q (get (area_of base) q)
      in_former q is = let e : slot_size q (get (put_over ns base) q) ≡ slot_size q (get F q) = ap (slot_size q) is in omega (arith, e)

      in_area : (q : List ℕ) → get (put_over ns base) q ≡ get (area_of base) q → slot_size q (get (put_over ns base) q) ≤ slot_size q (get F q) + slot_size q (get (area_of base) q)
      in_area q is = let e : slot_size q (get (put_over ns base) q) ≡ slot_size q (get (area_of base) q) = ap (slot_size q) is in omega (arith, e)

      at : (q : List ℕ) (o : Option (Option (List ℕ))) → note_of ns q ≡ o → get (put_over ns base) q ≡ or_else o (get base q)
      at q o is = get-put_over ns base q ∙ ap (λ (w : Option (Option (List ℕ))). or_else w (get base q)) is

      by_note : (q : List ℕ) (o : Option (Option (List ℕ))) → note_of ns q ≡ o → slot_size q (get (put_over ns base) q) ≤ slot_size q (get F q) + slot_size q (get (area_of base) q)
      by_note q (Some w) is = in_former q (at q (Some w) is ∙ sym (noted_is d F ns short.read stands_for q w is))
      by_note q None is =
          elim (is_inside q) as (λ b. is_inside q ≡ b → slot_size q (get (put_over ns base) q) ≤ slot_size q (get F q) + slot_size q (get (area_of base) q)) [
            | true ↦ λ within. in_area q (at q None is ∙ sym (at_side q true within))
            | false ↦ λ out. in_former q (at q None is ∙ short.is_base.others q is (λ unread. not_both (is_inside q) (ap is_inside unread.1.1.1) out) ∙ unnoted_is d F ns stands_for short.read q out is)
          ] refl

  room_wanted : Fits capacity (size F + (4 + n)) → ⊥
  room_wanted fits =
      let whole = over_sum [] ns base is_new short.is_base.away in
      let first = old_sizes-append (short.front ++ short.note ∷ []) short.rest in
      let again = old_sizes-append short.front (short.note ∷ short.rest) in
      let front = old_sizes-append short.front (short.note ∷ []) in
      fits_not_over capacity (size base + old_sizes (short.front ++ short.note ∷ [])) (size F + (4 + n)) (omega (arith, whole, again, front, area_fits, all_fit)) fits short.passes

-- Where the former map and what is read of the area fit, recovery has room.
pub has_room : (capacity : Option ℕ) (d F : Map) (n : ℕ) → (is_one (get d marker) ≡ true → StandsFor F d) → ReadsAtMost n d → Fits capacity (size F + (4 + n)) → NeverShort capacity d
has_room capacity d F n stands_for reads fits small name short = room_wanted capacity d F n (stands_for (open_marker capacity d name short)) reads small name short fits

-- what a run of calls leaves has both
both_left : (s t : State) (P Q R : Map → Type 0) → ((d : Map) → P d → Q d → R d) → GoesOn s t P → GoesOn s t Q → GoesOn s t R
both_left s t P Q R then first second = record {
  later = first.later;
  since = λ m d le left. ⊎_elim (λ before. inl before) (λ p. ⊎_elim (λ before. inl before) (λ q. inr (then d p q)) (second.since m d le left)) (first.since m d le left);
  capacity = first.capacity;
  faults = first.faults;
}

pub goes_with_room : (s t : State) (F : Map) (n : ℕ) → GoesOn s t (StandsFor F) → GoesOn s t (ReadsAtMost n) → GoesOnWithRoom s t F n
goes_with_room s t F n stands_for reads fits = both_left s t (StandsFor F) (ReadsAtMost n) (NeverShort s.capacity) (λ d p q. has_room s.capacity d F n (λ marked. p) q fits) stands_for reads

-- with more room
pub room_more : (s t : State) (F : Map) (n m : ℕ) → GoesOn s t (ReadsAtMost n) → n ≤ m → GoesOn s t (ReadsAtMost m)
room_more s t F n m goes le = weaker s t (ReadsAtMost n) (ReadsAtMost m) (λ d. reads_more n m d le) goes

-- one call after another
pub room_then : (s t u : State) (F : Map) (n : ℕ) → GoesOnWithRoom s t F n → GoesOnWithRoom t u F n → GoesOnWithRoom s u F n
room_then s t u F n first second fits =
    let one = first fits in
    joined s t u (NeverShort s.capacity) one
    (subst (λ (c : Option ℕ). GoesOn t u (NeverShort c)) one.capacity (second (subst (λ (c : Option ℕ). Fits c (size F + (4 + n))) (sym one.capacity) fits)))

-- the images of a call that changes names outside the area, or the marker
pub reads_beside : (n : ℕ) (s t : State) (X : List ℕ → Type 0) → LeavesAtMost n s → ((q : List ℕ) → X q → is_inside q ≡ true → q ≢ marker → ⊥) → Touches X s t → GoesOn s t (ReadsAtMost n)
reads_beside n s t X left out touches =
    weaker s t (AgreesBeside X s) (ReadsAtMost n) (λ d agrees. left d (λ q within ne solid. agrees q (⊎_elim solid (λ one. out q one within ne)))) touches.goes

pub left_beside : (n : ℕ) (s t : State) (X : List ℕ → Type 0) → LeavesAtMost n s → ((q : List ℕ) → X q → is_inside q ≡ true → q ≢ marker → ⊥) → Touches X s t → LeavesAtMost n t
left_beside n s t X left out touches = left_kept n s t (λ q within ne. touches.others q (λ one. out q one within ne)) (λ q within ne now. touches.dirty q (λ one. out q one within ne) now) left

-- maps with the same gates
pub first_same : (h d : Map) → ((j : ℕ) → get d (gate_name j) ≡ get h (gate_name j)) → (k n : ℕ) → first_shut d k n ≡ first_shut h k n
unfolding first_shut
first_same h d gates k zero = refl
first_same h d gates k (suc n) =
    rw (gates k) (elim (is_one (get h (gate_name k))) as (λ b. cond b (first_shut d (suc k) n) k ≡ cond b (first_shut h (suc k) n) k) [ true ↦ first_same h d gates (suc k) n | false ↦ refl ])

noted_of_read : (d : Map) (r : Result (List Note) (List ℕ)) → is_one (get d marker) ≡ true → read_from d 0 most_entries [] ≡ r → noted d ≡ r
unfolding noted
noted_of_read d r marked is = rw marked is

-- What a settling may leave before the marker is shut: the notes that are read are the same, and so is what is held beside them.
module _ (capacity : Option ℕ) (h d : Map) (ns : List Note) (entries : ℕ) (read : read_from h 0 most_entries [] ≡ Ok ns) (marked : is_one (get h marker) ≡ true) (count : first_shut h 0 most_entries ≡ entries) (unnoted : (q : List ℕ) → is_inside q ≡ true → note_of ns q ≡ None)
    (agrees : (q : List ℕ) → q ≢ marker → ¬ IsNoted ns q → ¬ IsUnread entries q → get d q ≡ get h q) where
  not_noted : (q : List ℕ) → note_of ns q ≡ None → ¬ IsNoted ns q
  not_noted q none noted_q = let both : Some noted_q.0 ≡ None = sym noted_q.1 ∙ none in cc

  gates : (j : ℕ) → get d (gate_name j) ≡ get h (gate_name j)
  gates j = agrees (gate_name j) (λ e. marker_not_gate j (sym e)) (not_noted (gate_name j) (unnoted (gate_name j) refl)) (λ unread. gate_not_entry j unread.0 unread.1.1.1)

  same_entries : (j : ℕ) → j < first_shut h 0 most_entries → get d (entry_name j) ≡ get h (entry_name j)
  same_entries j below =
      let most = first_at_most h 0 most_entries in
      agrees (entry_name j) (λ e. marker_not_entry j (sym e)) (not_noted (entry_name j) (unnoted (entry_name j) refl))
      (λ unread. let number = same_entry j unread.0 (omega (arith, below, most)) unread.1.1.0 unread.1.1.1 in omega (arith, below, number, unread.1.0, count))

  first_is_same : first_shut d 0 most_entries ≡ first_shut h 0 most_entries
  first_is_same = first_same h d gates 0 most_entries

  pub short_as : ShortAs capacity h d
  short_as name short = record {
    front = short.front;
    note = short.note;
    rest = short.rest;
    read = noted_h ∙ short_reads;
    is_name = short.is_name;
    base = short.base;
    is_base = record {
      away = short.is_base.away;
      unread = λ q unread. short.is_base.unread q (subst (λ (k : ℕ). IsUnread k q) (sym first_is_same) unread);
      others = λ q none is_read. short.is_base.others q none (λ unread. is_read (subst (λ (k : ℕ). IsUnread k q) first_is_same unread)) ∙ at q none (λ unread. is_read (subst (λ (k : ℕ). IsUnread k q) (sym count) unread));
    };
    before = short.before;
    passes = short.passes;
  }
    where
      marked_d : is_one (get d marker) ≡ true
      marked_d = open_marker capacity d name short

      noted_h : noted h ≡ Ok ns
      noted_h = noted_of_read h (Ok ns) marked read

      same_notes : ns ≡ short.front ++ short.note ∷ short.rest
      same_notes = one_list ns (short.front ++ short.note ∷ short.rest) (sym (noted_of_read d (Ok ns) marked_d (read_same h d gates 0 most_entries [] same_entries ∙ read)) ∙ short.read)

      short_reads : ◌≡◌ {A = Result (List Note) (List ℕ)} (Ok ns) (Ok (short.front ++ short.note ∷ short.rest))
      short_reads = ap Ok same_notes

      at : (q : List ℕ) → note_of (short.front ++ short.note ∷ short.rest) q ≡ None → ¬ IsUnread entries q → get d q ≡ get h q
      at q none is_read = ⊎_elim
          (λ (is : q ≡ marker). ap (λ (x : List ℕ). get d x) is ∙ one_is (get d marker) marked_d ∙ sym (one_is (get h marker) marked) ∙ ap (λ (x : List ℕ). get h x) (sym is))
          (λ (ne : q ≢ marker). agrees q ne (not_noted q (ap (λ (l : List Note). note_of l q) same_notes ∙ none)) is_read)
          (name_cases q marker)

-- where the marker is shut
pub plain_room : (s t : State) (A : Map) (n : ℕ) → GoesOn s t (StandsPlainly A) → GoesOnWithRoom s t A n
plain_room s t A n goes fits = weaker s t (StandsPlainly A) (NeverShort s.capacity) (λ d p. nothing_noted s.capacity d p.1) goes
