-- How many bytes of the area are read.
use Rattle.std.proofs.Common.{◌≡◌, ◌≢◌, ⊎_elim, ℕ, zero, suc, ◌+◌, ◌≤◌, ◌<◌, true, false, List, [], ◌∷◌, length, Option, Some, None, IfSome, refl, sym, ap, subst, ◌∙◌, arith}
use Rattle.std.proofs.lemmas.Bool.{cases_lt}
use Rattle.std.specs.FinMap.{get, remove}
use Rattle.mi_volume.specs.Maps.{Map, size, slot_size, HoldsAtMost}
use Rattle.mi_volume.specs.State.{State, GoesOn, ImagesOf, NothingDirty}
use Rattle.mi_volume.proofs.MapLemmas.{name_cases, get-remove_same, get-remove_other}
use Rattle.mi_volume.proofs.Moments.{weaker}
use Rattle.mi_volume.proofs.SizeLemmas.{size-remove}
use Rattle.mi_undo.specs.Names.{marker, entry_name, gate_name, most_entries, is_inside}
use Rattle.mi_undo.specs.Notes.{Note}
use Rattle.mi_undo.specs.Stands.{is_one}
use Rattle.mi_undo.specs.Keeps.{Opened, IsOpen}
use Rattle.mi_undo.specs.Steps.{OnlyChanges}
use Rattle.mi_undo.specs.Reading.{first_shut}
use Rattle.mi_undo.specs.Room.{IsGateSmall, IsReadArea, ReadsAtMost, LeavesAtMost}
use Rattle.mi_undo.proofs.NameLemmas.{gate_not_entry, marker_not_entry, marker_not_gate, same_gate, same_entry}
use Rattle.mi_undo.proofs.EntryNumbers.{entry_long, gate_long}
use Rattle.mi_undo.proofs.NoteLemmas.{not_both, shut_gate}
use Rattle.mi_undo.proofs.CloseLemmas.{one_is}

-- the first gate that is shut, behind open ones
pub first_is : (d : Map) (k fuel n : ℕ) → k ≤ n → n ≤ k + fuel → ((j : ℕ) → k ≤ j → j < n → is_one (get d (gate_name j)) ≡ true) → (n < k + fuel → is_one (get d (gate_name n)) ≡ false) → first_shut d k fuel ≡ n
unfolding first_shut
first_is d k zero n low high open_gates shut = omega (arith, low, high)
first_is d k (suc fuel) n low high open_gates shut = ⊎_elim
    (λ (less : k < n). rw (open_gates k (omega arith) less) (first_is d (suc k) fuel n (omega (arith, less)) (omega (arith, high)) (λ j from below. open_gates j (omega (arith, from)) below) (λ below. shut (omega (arith, below)))))
    (λ (le : n ≤ k).
    let same : k ≡ n = omega (arith, low, le) in
    rw (ap (λ (j : ℕ). is_one (get d (gate_name j))) same ∙ shut (omega (arith, le))) same)
    (cases_lt k n)

pub gate_open : (d : Map) (k j : ℕ) (parts : List (List Note)) → Opened d k parts → k ≤ j → j < k + length parts → is_one (get d (gate_name j)) ≡ true
gate_open d k j [] opened low high = absurd (omega (arith, low, high))
gate_open d k j (ns ∷ parts) opened low high = ⊎_elim
    (λ (less : k < j). gate_open d (suc k) j parts opened.2 (omega (arith, less)) (omega (arith, high)))
    (λ (le : j ≤ k). let same : k ≡ j = omega (arith, low, le) in subst (λ (i : ℕ). is_one (get d (gate_name i)) ≡ true) same opened.0)
    (cases_lt k j)

slot_small : (q : List ℕ) (o : Option (List ℕ)) → IfSome o (λ bytes. length bytes ≤ 1) → slot_size q o ≤ length q + 1
slot_small q None small = omega arith
slot_small q (Some bytes) small = omega (arith, small)

none_small : (d : Map) (name : List ℕ) → get d name ≡ None → HoldsAtMost d name 1
none_small d name none = subst (λ (o : Option (List ℕ)). IfSome o (λ bytes. length bytes ≤ 1)) (sym none) tt

-- more bytes are allowed
pub reads_more : (n m : ℕ) (d : Map) → n ≤ m → ReadsAtMost n d → ReadsAtMost m d
reads_more n m d le reads small area is = let here = reads small area is in omega (arith, here, le)

pub left_more : (n m : ℕ) (s : State) → n ≤ m → LeavesAtMost n s → LeavesAtMost m s
left_more n m s le left d agrees = reads_more n m d le (left d agrees)

-- a call that changes no entry and no gate
pub left_kept : (n : ℕ) (s t : State) → ((q : List ℕ) → is_inside q ≡ true → q ≢ marker → get t.held q ≡ get s.held q) → ((q : List ℕ) → is_inside q ≡ true → q ≢ marker → t.dirty q → s.dirty q) → LeavesAtMost n s → LeavesAtMost n t
left_kept n s t same_held fewer left d agrees = left d (λ q within ne solid. agrees q within ne (λ now. solid (fewer q within ne now)) ∙ same_held q within ne)

-- An entry more, and its gate: whatever has been written of the two, where the gate isn't open before the entry is whole.
module _ (s : State) (F : Map) (parts : List (List Note)) (o : IsOpen s F parts) (n : ℕ) (left : LeavesAtMost n s) (room : length parts < most_entries) (bytes : List ℕ)
    (d : Map) (agrees : (q : List ℕ) → is_inside q ≡ true → q ≢ marker → q ≢ entry_name (length parts) → q ≢ gate_name (length parts) → ¬ s.dirty q → get d q ≡ get s.held q)
    (whole : is_one (get d (gate_name (length parts))) ≡ true → get d (entry_name (length parts)) ≡ Some bytes) where
  abbrev k : ℕ
  k = length parts

  abbrev entry : List ℕ
  entry = entry_name (length parts)

  abbrev gate : List ℕ
  gate = gate_name (length parts)

  -- without the two
  abbrev cut : Map → Map
  cut m = remove (remove m gate) entry

  cut_other : (m : Map) (q : List ℕ) → q ≢ entry → q ≢ gate → get (cut m) q ≡ get m q
  cut_other m q not_entry not_gate = get-remove_other (remove m gate) entry q not_entry ∙ get-remove_other m gate q not_gate

  cut_entry : (m : Map) → get (cut m) entry ≡ None
  cut_entry m = get-remove_same (remove m gate) entry

  cut_gate : (m : Map) → get (cut m) gate ≡ None
  cut_gate m = get-remove_other (remove m gate) entry gate (gate_not_entry k k) ∙ get-remove_same m gate

  -- a name is one of the two or another
  by_name : (P : List ℕ → Type 0) → P entry → P gate → (q : List ℕ) → (q ≢ entry → q ≢ gate → P q) → P q
  by_name P at_entry at_gate q other = ⊎_elim
      (λ (is : q ≡ entry). subst P (sym is) at_entry)
      (λ (not_entry : q ≢ entry). ⊎_elim (λ (is : q ≡ gate). subst P (sym is) at_gate) (λ (not_gate : q ≢ gate). other not_entry not_gate) (name_cases q gate))
      (name_cases q entry)

  cut_agrees : (q : List ℕ) → is_inside q ≡ true → q ≢ marker → ¬ s.dirty q → get (cut d) q ≡ get s.held q
  cut_agrees q within ne solid =
      by_name (λ (x : List ℕ). get (cut d) x ≡ get s.held x)
      (cut_entry d ∙ sym (o.no_entry k (omega arith) room))
      (cut_gate d ∙ sym (o.standing.no_gate k (omega arith) room))
      q (λ not_entry not_gate. cut_other d q not_entry not_gate ∙ agrees q within ne not_entry not_gate solid)

  other_gate : (j : ℕ) → j < most_entries → j ≢ k → get d (gate_name j) ≡ get s.held (gate_name j)
  other_gate j below ne = agrees (gate_name j) refl (λ is. marker_not_gate j (sym is)) (gate_not_entry j k) (λ is. ne (same_gate j k below room is)) (o.standing.solid_gates j below)

  before : (j : ℕ) → j < k → is_one (get d (gate_name j)) ≡ true
  before j below = ap is_one (other_gate j (omega (arith, below, room)) (λ is. omega (arith, is, below))) ∙ gate_open s.held 0 j parts o.standing.opened (omega arith) (omega (arith, below))

  first_cut : first_shut (cut d) 0 most_entries ≡ k
  first_cut = first_is (cut d) 0 most_entries k (omega arith) (omega (arith, room))
      (λ j low below. ap is_one (cut_other d (gate_name j) (gate_not_entry j k) (λ is. let same : j ≡ k = same_gate j k (omega (arith, below, room)) room is in omega (arith, same, below))) ∙ before j below)
      (λ below. shut_gate _ (cut_gate d))

  -- the first gate that is shut is this one or the next
  record IsFirst (first : ℕ) : Type 0 where
    low : k ≤ first
    high : first ≤ k + 1

  module _ (near : IsFirst (first_shut d 0 most_entries)) (small : IsGateSmall d) (area : Map) (is : IsReadArea d area) where
    is_cut : IsReadArea (cut d) (cut area)
    is_cut = record {
      held = λ q within ne read.
          by_name (λ (x : List ℕ). get (cut area) x ≡ get (cut d) x) (cut_entry area ∙ sym (cut_entry d)) (cut_gate area ∙ sym (cut_gate d))
          q (λ not_entry not_gate. cut_other area q not_entry not_gate ∙ is.held q within ne (λ unread. read (unread.0, (omega (arith, unread.1.0, near.low, first_cut), (unread.1.1.0, unread.1.1.1)))) ∙ sym (cut_other d q not_entry not_gate));
      unread = λ q unread.
          by_name (λ (x : List ℕ). get (cut area) x ≡ None) (cut_entry area) (cut_gate area)
          q (λ not_entry not_gate. cut_other area q not_entry not_gate ∙ is.unread q (unread.0, (later unread.0 q not_entry unread.1.0 unread.1.1.1, (unread.1.1.0, unread.1.1.1))));
      marker = cut_other area marker (marker_not_entry k) (marker_not_gate k) ∙ is.marker;
      outside = λ q out. by_name (λ (x : List ℕ). get (cut area) x ≡ None) (cut_entry area) (cut_gate area) q (λ not_entry not_gate. cut_other area q not_entry not_gate ∙ is.outside q out);
    }
      where
        later : (j : ℕ) (q : List ℕ) → q ≢ entry → first_shut (cut d) 0 most_entries ≤ j → q ≡ entry_name j → first_shut d 0 most_entries ≤ j
        later j q not_entry low named = ⊎_elim
            (λ (less : k < j). omega (arith, less, near.high))
            (λ (le : j ≤ k). let same : j ≡ k = omega (arith, le, low, first_cut) in absurd (not_entry (named ∙ ap entry_name same)))
            (cases_lt k j)

    without : size (cut area) ≤ n
    without = left (cut d) cut_agrees (none_small (cut d) (gate_name (first_shut (cut d) 0 most_entries)) (ap (λ (j : ℕ). get (cut d) (gate_name j)) first_cut ∙ cut_gate d)) (cut area) is_cut

    -- by what the two count
    summed : (a b : ℕ) → slot_size gate (get area gate) ≤ a → slot_size entry (get area entry) ≤ b → size area ≤ n + (a + b)
    summed a b at_gate at_entry =
        let one = size-remove area gate in
        let two = size-remove (remove area gate) entry in
        let still : slot_size entry (get (remove area gate) entry) ≡ slot_size entry (get area entry) = ap (slot_size entry) (get-remove_other area gate entry (λ e. gate_not_entry k k (sym e))) in
        omega (arith, one, two, still, without, at_gate, at_entry)

    gate_held : get area gate ≡ get d gate
    gate_held = is.held gate refl (λ e. marker_not_gate k (sym e)) (λ unread. gate_not_entry k unread.0 unread.1.1.1)

  first_open : is_one (get d gate) ≡ true → first_shut d 0 most_entries ≡ k + 1
  first_open opened = first_is d 0 most_entries (k + 1) (omega arith) (omega (arith, room))
      (λ j low below. ⊎_elim (λ (less : j < k). before j less) (λ (le : k ≤ j). let same : k ≡ j = omega (arith, le, below) in subst (λ (i : ℕ). is_one (get d (gate_name i)) ≡ true) same opened) (cases_lt j k))
      (λ below. shut_gate _ (other_gate (k + 1) (omega (arith, below)) (λ same. omega (arith, same)) ∙ o.standing.no_gate (k + 1) (omega arith) (omega (arith, below))))

  first_closed : is_one (get d gate) ≡ false → first_shut d 0 most_entries ≡ k
  first_closed shut = first_is d 0 most_entries k (omega arith) (omega (arith, room)) (λ j low below. before j below) (λ below. shut)

  pub entry_more : ReadsAtMost (n + (25 + length bytes)) d
  entry_more small area is =
      elim (is_one (get d gate)) as (λ b. is_one (get d gate) ≡ b → size area ≤ n + (25 + length bytes)) [
        | true ↦ λ opened.
            let first = first_open opened in
            let near : IsFirst (first_shut d 0 most_entries) = record { low = omega (arith, first); high = omega (arith, first) } in
            let at_gate : slot_size gate (get area gate) ≡ 12 + 1 = ap (slot_size gate) (gate_held near small area is ∙ one_is (get d gate) opened) ∙ (let long = gate_long k in omega (arith, long)) in
            let read = is.held entry refl (λ e. marker_not_entry k (sym e)) (λ unread. let same : k ≡ unread.0 = same_entry k unread.0 room unread.1.1.0 unread.1.1.1 in omega (arith, same, unread.1.0, first)) in
            let at_entry : slot_size entry (get area entry) ≡ 12 + length bytes = ap (slot_size entry) (read ∙ whole opened) ∙ (let long = entry_long k in omega (arith, long)) in
            let sum = summed near small area is (12 + 1) (12 + length bytes) (omega (arith, at_gate)) (omega (arith, at_entry)) in
            omega (arith, sum)
        | false ↦ λ shut.
            let first = first_closed shut in
            let near : IsFirst (first_shut d 0 most_entries) = record { low = omega (arith, first); high = omega (arith, first) } in
            let few : IfSome (get d gate) (λ b. length b ≤ 1) = subst (λ (j : ℕ). HoldsAtMost d (gate_name j) 1) first small in
            let slot = slot_small gate (get d gate) few in
            let at_gate : slot_size gate (get area gate) ≡ slot_size gate (get d gate) = ap (slot_size gate) (gate_held near small area is) in
            let at_entry : slot_size entry (get area entry) ≡ 0 = ap (slot_size entry) (is.unread entry (k, (omega (arith, first), (room, refl)))) in
            let sum = summed near small area is (12 + 1) 0 (let long = gate_long k in omega (arith, at_gate, slot, long)) (omega (arith, at_entry)) in
            omega (arith, sum)
      ] refl

-- while the entry is written, and after that
pub entry_room : (s : State) (F : Map) (parts : List (List Note)) (o : IsOpen s F parts) (n : ℕ) → LeavesAtMost n s → length parts < most_entries → (bytes : List ℕ) (t : State) → OnlyChanges (entry_name (length parts)) s t
    → GoesOn s t (ReadsAtMost (n + (25 + length bytes))) × LeavesAtMost (n + (25 + length bytes)) t
entry_room s F parts o n left room bytes t only = (
  weaker s t (ImagesOf (entry_name (length parts)) s) (ReadsAtMost (n + (25 + length bytes))) (λ d image. entry_more s F parts o n left room bytes d
      (λ q within ne not_entry not_gate solid. image.agrees q (⊎_elim solid not_entry))
      (λ opened. absurd (not_both (is_one (get d (gate_name (length parts)))) opened (shut_gate _ (image.agrees (gate_name (length parts)) (⊎_elim solid_gate not_same) ∙ no_gate))))) only.goes,
  λ d agrees. entry_more s F parts o n left room bytes d
      (λ q within ne not_entry not_gate solid. agrees q within ne (λ now. solid (only.dirty q not_entry now)) ∙ only.others q not_entry)
      (λ opened. absurd (not_both (is_one (get d (gate_name (length parts)))) opened (shut_gate _ (agrees (gate_name (length parts)) refl (λ e. marker_not_gate (length parts) (sym e)) (λ now. solid_gate (only.dirty (gate_name (length parts)) not_same now)) ∙ only.others (gate_name (length parts)) not_same ∙ no_gate)))),
)
  where
    not_same : gate_name (length parts) ≢ entry_name (length parts)
    not_same = gate_not_entry (length parts) (length parts)

    solid_gate : ¬ s.dirty (gate_name (length parts))
    solid_gate = o.standing.solid_gates (length parts) room

    no_gate : get s.held (gate_name (length parts)) ≡ None
    no_gate = o.standing.no_gate (length parts) (omega arith) room

-- while its gate is opened, and after that
pub gate_room : (s : State) (F : Map) (parts : List (List Note)) (o : IsOpen s F parts) (n : ℕ) → LeavesAtMost n s → length parts < most_entries → (bytes : List ℕ) (t : State) → OnlyChanges (entry_name (length parts)) s t
    → get t.held (entry_name (length parts)) ≡ Some bytes → NothingDirty t → (u : State) → OnlyChanges (gate_name (length parts)) t u → GoesOn t u (ReadsAtMost (n + (25 + length bytes))) × LeavesAtMost (n + (25 + length bytes)) u
gate_room s F parts o n left room bytes t first written clean u only = (
  weaker t u (ImagesOf (gate_name (length parts)) t) (ReadsAtMost (n + (25 + length bytes))) (λ d image. entry_more s F parts o n left room bytes d
      (λ q within ne not_entry not_gate solid. image.agrees q (⊎_elim (clean q) not_gate) ∙ first.others q not_entry)
      (λ opened. image.agrees (entry_name (length parts)) (⊎_elim (clean (entry_name (length parts))) not_same) ∙ written)) only.goes,
  λ d agrees. entry_more s F parts o n left room bytes d
      (λ q within ne not_entry not_gate solid. agrees q within ne (λ now. clean q (only.dirty q not_gate now)) ∙ only.others q not_gate ∙ first.others q not_entry)
      (λ opened. agrees (entry_name (length parts)) refl (λ e. marker_not_entry (length parts) (sym e)) (λ now. clean (entry_name (length parts)) (only.dirty (entry_name (length parts)) not_same now)) ∙ only.others (entry_name (length parts)) not_same ∙ written),
)
  where
    not_same : entry_name (length parts) ≢ gate_name (length parts)
    not_same e = gate_not_entry (length parts) (length parts) (sym e)
