-- The next entry is made.
use Rattle.std.proofs.Common.{◌≡◌, ℕ, ◌+◌, ◌≤◌, ◌<◌, true, false, cond, List, [], ◌∷◌, ◌++◌, length, Option, Some, None, Result, Ok, Vec, IsErr, IsErrOf, refl, sym, ap, subst, ◌∙◌, arith}
use Rattle.std.specs.declared.alloc.Global.{Global}
use Rattle.std.specs.FinMap.{get, insert}
use Rattle.mi_text.specs.Maps.{same_name}
use Rattle.mi_text.proofs.MapLemmas.{from_same}
use Rattle.mi_volume.specs.Maps.{Map, Fits, Exceeds, size}
use Rattle.mi_volume.specs.State.{State, GoesOn, NothingDirty}
use Rattle.mi_volume.proofs.MapLemmas.{get-insert_same}
use Rattle.mi_volume.proofs.Moments.{joined}
use Rattle.mi_undo.specs.Names.{entry_name, gate_name, most_entries}
use Rattle.mi_undo.specs.Notes.{Note, note_of, notes_for, all_notes, spelled, are_new}
use Rattle.mi_undo.specs.Keeps.{IsOpen}
use Rattle.mi_undo.specs.Area.{notes_in}
use Rattle.mi_undo.specs.Steps.{OnlyChanges, HoldsNoMore, AddsBytes}
use Rattle.mi_undo.specs.Room.{ReadsAtMost, LeavesAtMost}
use Rattle.mi_undo.specs.Entry.{AllFit, places_from, Enters}
use Rattle.mi_undo.specs.declared.kept.Place.{Place}
use Rattle.mi_undo.specs.declared.fault.OpFault.{OpFault}
use Rattle.mi_undo.specs.declared.fault.OpFault.TheVariants as op
use Rattle.mi_undo.proofs.FaultLemmas.{at_err, value_at_err}
use Rattle.mi_undo.proofs.NameLemmas.{gate_not_entry, same_entry}
use Rattle.mi_undo.proofs.EntryNumbers.{entry_long, gate_long}
use Rattle.mi_undo.proofs.RoomLemmas.{entry_room, gate_room}
use Rattle.mi_undo.proofs.StepLemmas.{exceeds_more, size-new, size_most}
use Rattle.mi_undo.proofs.EncodeLemmas.{notes_of-spelled}
use Rattle.mi_undo.proofs.EntryLemmas.{notes_in-places}
use Rattle.mi_undo.proofs.NoteSteps.{Staged, trying_entry, staged, trying_gate, opened_gate}

pub notes_for-held : (m : Map) (names : List (List ℕ)) (q : List ℕ) (w : Option (List ℕ)) → note_of (notes_for m names) q ≡ Some w → get m q ≡ w
notes_for-held m [] q w is = absurd (cc)
notes_for-held m (n ∷ names) q w is =
    elim (same_name q n) as (λ b. same_name q n ≡ b → cond b (Some (get m n)) (note_of (notes_for m names) q) ≡ Some w → get m q ≡ w) [
      | true ↦ λ e some. ap (λ (x : List ℕ). get m x) (from_same q n e) ∙ (let here : get m n ≡ w = cc in here)
      | false ↦ λ e rest. notes_for-held m names q w rest
    ] refl is

-- an error that says nothing of room, and one that does
pub adds_nothing : {T : Type 0} (n : ℕ) (s t : State) (r : Result T OpFault) → size t.held ≤ size s.held + n → IsErr r → (IsErrOf r op.Full → ⊥) → AddsBytes n s t r
adds_nothing n s t r most fails never = record { ok = at_err _ r fails; most = most; fits = at_err _ r fails; full = λ full. absurd (never full) }

pub adds_failed_so : {T : Type 0} (n : ℕ) (s t : State) (r : Result T OpFault) → size t.held ≤ size s.held + n → IsErr r → (IsErrOf r op.Full → Exceeds s.capacity (size s.held + n)) → AddsBytes n s t r
adds_failed_so n s t r most fails full = record { ok = at_err _ r fails; most = most; fits = at_err _ r fails; full = full }

module _ (number : ℕ) (s : State) (F : Map) (parts : List (List Note)) (ns : List Note) (o : IsOpen s F parts) (at : number ≡ length parts) (room : number < most_entries) where
  room_here : length parts < most_entries
  room_here = omega (arith, at)

  absent : get s.held (entry_name number) ≡ None
  absent = o.no_entry number (omega (arith, at)) room

  entry_sum : Exceeds s.capacity (size (insert s.held (entry_name number) (spelled ns))) → Exceeds s.capacity (size s.held + (25 + length (spelled ns)))
  entry_sum over =
      let sum = size-new s.held (entry_name number) (spelled ns) absent in
      exceeds_more s.capacity (size (insert s.held (entry_name number) (spelled ns))) (size s.held + (25 + length (spelled ns))) (omega (arith, sum, entry_long number)) over

  others_kept : (t : State) → OnlyChanges (entry_name number) s t → (k : ℕ) → k < length parts → get t.held (entry_name k) ≡ get s.held (entry_name k)
  others_kept t only k below = only.others (entry_name k) (λ e. let same : k ≡ number = same_entry k number (omega (arith, room_here)) room e in omega (arith, at, same))

  entry_most : (t : State) → OnlyChanges (entry_name number) s t → HoldsNoMore (entry_name number) (length (spelled ns)) s t → size t.held ≤ size s.held + (25 + length (spelled ns))
  entry_most t only no_more = let most = size_most s.held t.held (entry_name number) (length (spelled ns)) only.others absent no_more in omega (arith, most, entry_long number)

  -- the entry wasn't written
  pub enters_failed : (t : State) (r : Result (Vec Place Global) OpFault) → OnlyChanges (entry_name number) s t → HoldsNoMore (entry_name number) (length (spelled ns)) s t → IsErr r → (IsErrOf r op.Full → Exceeds s.capacity (size (insert s.held (entry_name number) (spelled ns)))) → Enters number F parts ns s t r
  enters_failed t r only no_more fails full = record {
    trying = trying_entry s F parts o room_here t (subst (λ (k : ℕ). OnlyChanges (entry_name k) s t) at only);
    is_open = at_err _ r fails;
    placed = value_at_err r _ fails;
    places = value_at_err r _ fails;
    others = others_kept t only;
    adds = record { ok = at_err _ r fails; most = entry_most t only no_more; fits = at_err _ r fails; full = λ is_full. entry_sum (full is_full) };
    room = λ n left. entry_room s F parts o n left room_here (spelled ns) t (subst (λ (k : ℕ). OnlyChanges (entry_name k) s t) at only);
  }

  -- the entry is on the disk
  module _ (t : State) (only : OnlyChanges (entry_name number) s t) (written : t.held ≡ insert s.held (entry_name number) (spelled ns)) (clean : NothingDirty t)
      (new : are_new (all_notes parts) ns ≡ true) (fit : AllFit ns) (held : (q : List ℕ) (w : Option (List ℕ)) → note_of ns q ≡ Some w → get s.held q ≡ w) where
    entry_there : get t.held (entry_name number) ≡ Some (spelled ns)
    entry_there = ap (λ (m : Map). get m (entry_name number)) written ∙ get-insert_same s.held (entry_name number) (spelled ns)

    stage : Staged t F parts ns
    stage = staged s F parts o room_here t ns (subst (λ (k : ℕ). OnlyChanges (entry_name k) s t) at only) (new, notes_of-spelled ns fit, tt) held (subst (λ (k : ℕ). get t.held (entry_name k) ≡ Some (spelled ns)) at entry_there) clean

    module _ (u : State) (gate : OnlyChanges (gate_name number) t u) where
      others_then : (k : ℕ) → k < length parts → get u.held (entry_name k) ≡ get s.held (entry_name k)
      others_then k below = gate.others (entry_name k) (λ e. gate_not_entry number k (sym e)) ∙ others_kept t only k below

      gate_size : size (insert t.held (gate_name number) (1 ∷ [])) ≡ size s.held + (25 + length (spelled ns))
      gate_size =
          let no_gate : get t.held (gate_name number) ≡ None = only.others (gate_name number) (gate_not_entry number number) ∙ o.standing.no_gate number (omega (arith, at)) room in
          let first = ap size written ∙ size-new s.held (entry_name number) (spelled ns) absent in
          let second = size-new t.held (gate_name number) (1 ∷ []) no_gate in
          omega (arith, first, second, entry_long number, gate_long number)

      gate_sum : Exceeds t.capacity (size (insert t.held (gate_name number) (1 ∷ []))) → Exceeds s.capacity (size s.held + (25 + length (spelled ns)))
      gate_sum over = subst (λ (c : Option ℕ). Exceeds c (size s.held + (25 + length (spelled ns)))) only.goes.capacity (subst (λ (k : ℕ). Exceeds t.capacity k) gate_size over)

      gate_absent : get t.held (gate_name number) ≡ None
      gate_absent = only.others (gate_name number) (gate_not_entry number number) ∙ o.standing.no_gate number (omega (arith, at)) room

      entry_then : OnlyChanges (entry_name (length parts)) s t
      entry_then = subst (λ (k : ℕ). OnlyChanges (entry_name k) s t) at only

      gate_then : OnlyChanges (gate_name (length parts)) t u
      gate_then = subst (λ (k : ℕ). OnlyChanges (gate_name k) t u) at gate

      room_then : (n : ℕ) → LeavesAtMost n s → GoesOn s u (ReadsAtMost (n + (25 + length (spelled ns)))) × LeavesAtMost (n + (25 + length (spelled ns))) u
      room_then n left =
          let first = entry_room s F parts o n left room_here (spelled ns) t entry_then in
          let second = gate_room s F parts o n left room_here (spelled ns) t entry_then (subst (λ (k : ℕ). get t.held (entry_name k) ≡ Some (spelled ns)) at entry_there) clean u gate_then in
          (joined s t u (ReadsAtMost (n + (25 + length (spelled ns)))) first.0 second.0, second.1)

      gate_most : HoldsNoMore (gate_name number) 1 t u → size u.held ≤ size s.held + (25 + length (spelled ns))
      gate_most no_more =
          let first = ap size written ∙ size-new s.held (entry_name number) (spelled ns) absent in
          let second = size_most t.held u.held (gate_name number) 1 gate.others gate_absent no_more in
          omega (arith, first, second, entry_long number, gate_long number)

      pub gate_failed : (r : Result (Vec Place Global) OpFault) → HoldsNoMore (gate_name number) 1 t u → IsErr r → (IsErrOf r op.Full → Exceeds t.capacity (size (insert t.held (gate_name number) (1 ∷ [])))) → Enters number F parts ns s u r
      gate_failed r no_more fails full = record {
        trying = trying_gate s F parts o room_here t ns (trying_entry s F parts o room_here t (subst (λ (k : ℕ). OnlyChanges (entry_name k) s t) at only)) stage u (subst (λ (k : ℕ). OnlyChanges (gate_name k) t u) at gate);
        is_open = at_err _ r fails;
        placed = value_at_err r _ fails;
        places = value_at_err r _ fails;
        others = others_then;
        adds = record { ok = at_err _ r fails; most = gate_most no_more; fits = at_err _ r fails; full = λ is_full. gate_sum (full is_full) };
        room = room_then;
      }

      pub entered : (places : Vec Place Global) → u.held ≡ insert t.held (gate_name number) (1 ∷ []) → NothingDirty u → places.items ≡ places_from number 0 ns → Fits t.capacity (size (insert t.held (gate_name number) (1 ∷ []))) → Enters number F parts ns s u (Ok places)
      entered places opened clean_now are fits =
          let tried = trying_gate s F parts o room_here t ns (trying_entry s F parts o room_here t (subst (λ (k : ℕ). OnlyChanges (entry_name k) s t) at only)) stage u (subst (λ (k : ℕ). OnlyChanges (gate_name k) t u) at gate) in
          let entry_now : get u.held (entry_name number) ≡ Some ([] ++ spelled ns) = gate.others (entry_name number) (λ e. gate_not_entry number number (sym e)) ∙ entry_there in
          record {
            trying = tried;
            is_open = opened_gate s F parts o room_here t ns (trying_entry s F parts o room_here t (subst (λ (k : ℕ). OnlyChanges (entry_name k) s t) at only)) stage u (subst (λ (k : ℕ). u.held ≡ insert t.held (gate_name k) (1 ∷ [])) at opened) tried.only clean_now;
            placed = ap (notes_in u.held) are ∙ notes_in-places u.held number 0 [] ns entry_now refl;
            places = are;
            others = others_then;
            adds = record {
              ok = ap size opened ∙ gate_size;
              most = let sum = ap size opened ∙ gate_size in omega (arith, sum);
              fits = subst (λ (c : Option ℕ). Fits c (size s.held + (25 + length (spelled ns)))) only.goes.capacity (subst (λ (k : ℕ). Fits t.capacity k) gate_size fits);
              full = λ is_full. absurd (cc);
            };
            room = room_then;
          }
