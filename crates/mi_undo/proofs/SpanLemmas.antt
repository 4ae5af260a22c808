-- Bytes that are added to a name by pieces.
use Rattle.std.proofs.Common.{◌≡◌, ◌≢◌, ℕ, ◌+◌, ◌-◌, ◌≤◌, ◌<◌, List, [], ◌++◌, length, take, drop, Option, Some, Result, IsErr, IsErrOf, sym, ap, subst, ◌∙◌, arith, append_assoc, length-append, length-take, length-drop}
use Rattle.std.proofs.lemmas.List.{append-nil, drop-drop, take_all, take_min}
use Rattle.std.proofs.Math.Seq.{take-add}
use Rattle.std.specs.FinMap.{get, insert}
use Rattle.mi_volume.specs.Maps.{Map, Exceeds, size, bytes_or_none}
use Rattle.mi_volume.specs.State.{State, GoesOn, Images, ImagesOf, Stays}
use Rattle.mi_volume.specs.Calls.{Writes}
use Rattle.mi_volume.proofs.MapLemmas.{get-insert_same}
use Rattle.mi_volume.specs.declared.volume.PutFault.{PutFault}
use Rattle.mi_volume.specs.declared.volume.PutFault.TheVariants as put
use Rattle.mi_undo.specs.declared.fault.OpFault.{OpFault}
use Rattle.mi_undo.specs.declared.fault.OpFault.TheVariants as op
use Rattle.mi_undo.specs.Steps.{OnlyChanges, Adds}
use Rattle.mi_undo.proofs.FaultLemmas.{at_err}
use Rattle.mi_undo.proofs.StepLemmas.{only_start, only_then, only_looks, insert_itself, insert_twice, exceeds_longer, no_more_then, no_more_longer, no_more_written}

-- these bytes are added so far
pub record Added (name before so_far : List ℕ) (old new : State) : Type 0 where
  pub only : OnlyChanges name old new
  pub held : new.held ≡ insert old.held name (before ++ so_far)

pub added_start : (s : State) (name before : List ℕ) → get s.held name ≡ Some before → Added name before [] s s
added_start s name before is = record { only = only_start s name; held = sym (ap (λ (b : List ℕ). insert s.held name b) (append-nil before) ∙ insert_itself s.held name before is) }

-- the next piece
pub piece_is : (bytes : List ℕ) (from at n : ℕ) → from ≤ at → take (at - from) (drop from bytes) ++ take n (drop at bytes) ≡ take ((at + n) - from) (drop from bytes)
piece_is bytes from at n le =
    let low : from + (at - from) ≡ at = omega arith in
    let sum : (at - from) + n ≡ (at + n) - from = omega arith in
    ap (λ (l : List ℕ). take (at - from) (drop from bytes) ++ take n l) (sym (drop-drop (at - from) from bytes ∙ ap (λ (k : ℕ). drop k bytes) low))
    ∙ sym (take-add (at - from) n (drop from bytes))
    ∙ ap (λ (k : ℕ). take k (drop from bytes)) sum

-- the first bytes of a run are no more than the run
pub run_longer : (bytes : List ℕ) (m n : ℕ) → m ≤ n → length (take m bytes) ≤ length (take n bytes)
run_longer bytes m n le =
    let sum : m + (n - m) ≡ n = omega arith in
    let parts = ap length (take-add m (n - m) bytes) ∙ length-append (take m bytes) (take (n - m) (drop m bytes)) in
    let whole : length (take (m + (n - m)) bytes) ≡ length (take n bytes) = ap (λ (k : ℕ). length (take k bytes)) sum in
    omega (arith, parts, whole)

module _ (s t u : State) (name before so_far piece : List ℕ) (added : Added name before so_far s t) (goes : GoesOn t u (Images t)) (stays : Stays t u) where
  looked : OnlyChanges name s u
  looked = only_then s t u name added.only (only_looks t u name goes stays)

  held_here : u.held ≡ insert s.held name (before ++ so_far)
  held_here = stays.held ∙ added.held

  at_name : bytes_or_none (get u.held name) ≡ before ++ so_far
  at_name = ap (λ (m : Map). bytes_or_none (get m name)) held_here ∙ ap bytes_or_none (get-insert_same s.held name (before ++ so_far))

  put_is : insert u.held name (bytes_or_none (get u.held name) ++ piece) ≡ insert s.held name (before ++ (so_far ++ piece))
  put_is =
      ap (λ (b : List ℕ). insert u.held name (b ++ piece)) at_name
      ∙ ap (λ (m : Map). insert m name ((before ++ so_far) ++ piece)) held_here
      ∙ insert_twice s.held name (before ++ so_far) ((before ++ so_far) ++ piece)
      ∙ ap (λ (b : List ℕ). insert s.held name b) (append_assoc before so_far piece)

  module _ (v : State) (more : GoesOn u v (ImagesOf name u)) where
    pub piece_only : ((q : List ℕ) → q ≢ name → get v.held q ≡ get u.held q) → ((q : List ℕ) → q ≢ name → v.dirty q → u.dirty q) → OnlyChanges name s v
    piece_only others dirty = only_then s u v name looked (record { goes = more; others = others; dirty = dirty })

    pub piece_added : ((q : List ℕ) → q ≢ name → get v.held q ≡ get u.held q) → ((q : List ℕ) → q ≢ name → v.dirty q → u.dirty q) → v.held ≡ insert u.held name (bytes_or_none (get u.held name) ++ piece) → Added name before (so_far ++ piece) s v
    piece_added others dirty held = record { only = piece_only others dirty; held = held ∙ put_is }

  pub piece_exceeds : (all : List ℕ) → length (so_far ++ piece) ≤ length all → Exceeds u.capacity (size (insert u.held name (bytes_or_none (get u.held name) ++ piece))) → Exceeds s.capacity (size (insert s.held name (before ++ all)))
  piece_exceeds all le over =
      let longer : length (before ++ (so_far ++ piece)) ≤ length (before ++ all) = omega (arith, le, length-append before (so_far ++ piece), length-append before all) in
      exceeds_longer s.capacity s.held name (before ++ (so_far ++ piece)) (before ++ all) longer
      (subst (λ (c : Option ℕ). Exceeds c (size (insert s.held name (before ++ (so_far ++ piece))))) looked.goes.capacity
      (subst (λ (m : Map). Exceeds u.capacity (size m)) put_is over))

-- what is read of another name, behind what is added so far
pub more_read : (s t u : State) (name before so_far : List ℕ) → Added name before so_far s t → Stays t u → (other piece : List ℕ) (from at n : ℕ) → other ≢ name → from ≤ at → piece ≡ take n (drop at (bytes_or_none (get t.held other)))
    → take (at - from) (drop from (bytes_or_none (get s.held other))) ++ piece ≡ take ((at + n) - from) (drop from (bytes_or_none (get s.held other)))
more_read s t u name before so_far added stays other piece from at n ne le is =
    let same_bytes = ap bytes_or_none (added.only.others other ne) in
    ap (λ (l : List ℕ). take (at - from) (drop from (bytes_or_none (get s.held other))) ++ l) (is ∙ ap (λ (b : List ℕ). take n (drop at b)) same_bytes)
    ∙ piece_is (bytes_or_none (get s.held other)) from at n le

-- what is read has as many bytes as are taken
pub read_is : (bytes l : List ℕ) (n k : ℕ) → bytes ≡ take n l → k ≡ length bytes → bytes ≡ take k l
read_is bytes l n k is long = is ∙ sym (take_min n l) ∙ ap (λ (k : ℕ). take k l) (sym (length-take n l) ∙ sym (ap length is) ∙ sym long)

pub within_run : (bytes so_far piece : List ℕ) (m n from : ℕ) → so_far ++ piece ≡ take m (drop from bytes) → m ≤ n → length (so_far ++ piece) ≤ length (take n (drop from bytes))
within_run bytes so_far piece m n from is le = let longer = run_longer (drop from bytes) m n le in omega (arith, longer, ap length is)

pub run_whole : (m : Map) (name before bytes : List ℕ) (from : ℕ) {at end : ℕ} → from ≤ at → (from < at → at ≤ end) → end ≤ at → insert m name (before ++ take (at - from) (drop from bytes)) ≡ insert m name (before ++ take (end - from) (drop from bytes))
run_whole m name before bytes from {at} {end} low high past =
    let same_length : at - from ≡ end - from = grind (arith, low, high, past) in
    ap (λ (k : ℕ). insert m name (before ++ take k (drop from bytes))) same_length

-- where nothing is read, nothing is left of the run
pub run_ended : (bytes : List ℕ) (from at n end : ℕ) → from ≤ at → at ≤ end → 0 < n → length (take n (drop at bytes)) ≡ 0 → take (at - from) (drop from bytes) ≡ take (end - from) (drop from bytes)
run_ended bytes from at n end low high some none =
    let short : length bytes ≤ at = omega (arith, none, length-take n (drop at bytes), length-drop at bytes) in
    let rest = length-drop from bytes in
    take_all (at - from) (drop from bytes) (omega (arith, rest)) ∙ sym (take_all (end - from) (drop from bytes) (omega (arith, rest)))

-- the next piece wasn't written
pub piece_fails : {T U : Type 0} (s t u v : State) (name before other piece : List ℕ) (from at n end : ℕ) (r : Result T OpFault) (w : Result U PutFault)
    → Added name before (take (at - from) (drop from (bytes_or_none (get s.held other)))) s t → GoesOn t u (Images t) → Stays t u → other ≢ name → from ≤ at → at + n ≤ end
    → piece ≡ take n (drop at (bytes_or_none (get t.held other))) → GoesOn u v (ImagesOf name u) → Writes name (bytes_or_none (get u.held name) ++ piece) u v w
    → IsErr r → (IsErrOf r op.Full → IsErrOf w put.Full) → Adds name before (take (end - from) (drop from (bytes_or_none (get s.held other)))) s v r
piece_fails s t u v name before other piece from at n end r w added goes stays ne low within is more writes fails full =
    let so_far = take (at - from) (drop from (bytes_or_none (get s.held other))) in
    let sum = more_read s t u name before so_far added stays other piece from at n ne low is in
    let le : (at + n) - from ≤ end - from = omega arith in
    record {
      only = piece_only s t u name before so_far piece added goes stays v more writes.others writes.dirty;
      ok = at_err _ r fails;
      most =
          let all = take (end - from) (drop from (bytes_or_none (get s.held other))) in
          let shorter = within_run (bytes_or_none (get s.held other)) so_far piece ((at + n) - from) (end - from) from sum le in
          let here : get u.held name ≡ Some (before ++ so_far) = ap (λ (m : Map). get m name) (stays.held ∙ added.held) ∙ get-insert_same s.held name (before ++ so_far) in
          let long : length (bytes_or_none (get u.held name) ++ piece) ≡ length ((before ++ so_far) ++ piece) = ap (λ (o : Option (List ℕ)). length (bytes_or_none o ++ piece)) here in
          no_more_then s u v name (before ++ so_far) (length (before ++ all)) here (omega (arith, shorter, length-append before so_far, length-append so_far piece, length-append before all))
          (no_more_longer u v name (length (bytes_or_none (get u.held name) ++ piece)) (length (before ++ all))
          (omega (arith, long, shorter, length-append (before ++ so_far) piece, length-append before so_far, length-append so_far piece, length-append before all)) (no_more_written u v name (bytes_or_none (get u.held name) ++ piece) w writes));
      full = λ is_full. piece_exceeds s t u name before so_far piece added goes stays (take (end - from) (drop from (bytes_or_none (get s.held other))))
          (within_run (bytes_or_none (get s.held other)) so_far piece ((at + n) - from) (end - from) from sum le)
          (writes.exceeds (full is_full));
    }
