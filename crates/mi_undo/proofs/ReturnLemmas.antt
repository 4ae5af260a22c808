-- Old bytes are put back by pieces.
use Rattle.std.proofs.Common.{◌≡◌, ◌≢◌, ℕ, ◌+◌, ◌-◌, ◌≤◌, List, ◌++◌, length, take, drop, Option, Some, Result, Ok, OnOk, sym, ap, subst, ◌∙◌, arith}
use Rattle.std.proofs.lemmas.Result.{on_ok_weaker}
use Rattle.std.specs.Option.{option_map}
use Rattle.std.specs.FinMap.{get, insert}
use Rattle.mi_undo.specs.Names.{entry_name}
use Rattle.mi_undo.specs.declared.kept.Span.{Span}
use Rattle.mi_volume.specs.Maps.{Map, Exceeds, size, bytes_or_none}
use Rattle.mi_volume.specs.State.{State, GoesOn, Images, ImagesOf, Stays}
use Rattle.mi_volume.specs.Calls.{Writes}
use Rattle.mi_volume.proofs.MapLemmas.{get-insert_same}
use Rattle.mi_undo.specs.Steps.{Adds, IsWithin}
use Rattle.mi_undo.specs.Back.{PutsOne}
use Rattle.mi_undo.specs.declared.fault.OpFault.{OpFault}
use Rattle.mi_undo.proofs.StepLemmas.{only_looks, only_then, insert_twice, exceeds_longer, within_put}
use Rattle.mi_undo.proofs.SpanLemmas.{piece_is, run_longer}

pub returned_bytes : {T U : Type 0} (s t u v : State) (name entry piece : List ℕ) (at first end : ℕ) (r : Result T OpFault) (x : U) → GoesOn s t (Images s) → Stays s t → piece ≡ take first (drop at (bytes_or_none (get s.held entry)))
    → GoesOn t u (ImagesOf name t) → Writes name piece t u (Ok x) → entry ≢ name
    → ((before : List ℕ) → get u.held name ≡ Some before → Adds name before (take (end - (at + first)) (drop (at + first) (bytes_or_none (get u.held entry)))) u v r)
    → (IsWithin u → OnOk r (IsWithin v)) → ((at + first) + (end - (at + first))) - at ≡ end - at → PutsOne name (Some (take (end - at) (drop at (bytes_or_none (get s.held entry))))) s v r
returned_bytes {T} s t u v name entry piece at first end r x looks stays is goes writes ne adds_then fits sum =
    let there : get u.held name ≡ Some piece = ap (λ (m : Map). get m name) writes.ok ∙ get-insert_same t.held name piece in
    let adds = adds_then piece there in
    let same_entry : get u.held entry ≡ get s.held entry = writes.others entry ne ∙ ap (λ (m : Map). get m entry) stays.held in
    let low : (at + first) - at ≡ first = omega arith in
    let whole : piece ++ take (end - (at + first)) (drop (at + first) (bytes_or_none (get u.held entry))) ≡ take (end - at) (drop at (bytes_or_none (get s.held entry))) =
    (λ i. is i ++ take (end - (at + first)) (drop (at + first) (bytes_or_none (same_entry i))))
    ∙ ap (λ (k : ℕ). take k (drop at (bytes_or_none (get s.held entry))) ++ take (end - (at + first)) (drop (at + first) (bytes_or_none (get s.held entry)))) (sym low)
    ∙ piece_is (bytes_or_none (get s.held entry)) at (at + first) (end - (at + first)) (omega arith)
    ∙ ap (λ (k : ℕ). take k (drop at (bytes_or_none (get s.held entry)))) sum in
    record {
      only = only_then s t v name (only_looks s t name looks stays) (only_then t u v name (record { goes = goes; others = writes.others; dirty = writes.dirty }) adds.only);
      ok = on_ok_weaker r (λ held. ap (λ (m : Map). get m name) held ∙ get-insert_same u.held name (piece ++ take (end - (at + first)) (drop (at + first) (bytes_or_none (get u.held entry)))) ∙ ap Some whole) adds.ok;
      full = λ full.
          let map : insert u.held name (piece ++ take (end - (at + first)) (drop (at + first) (bytes_or_none (get u.held entry)))) ≡ insert s.held name (take (end - at) (drop at (bytes_or_none (get s.held entry)))) =
          ap (λ (m : Map). insert m name (piece ++ take (end - (at + first)) (drop (at + first) (bytes_or_none (get u.held entry))))) writes.ok
          ∙ insert_twice t.held name piece (piece ++ take (end - (at + first)) (drop (at + first) (bytes_or_none (get u.held entry))))
          ∙ (λ i. insert (stays.held i) name (whole i)) in
          subst (λ (c : Option ℕ). Exceeds c (size (insert s.held name (take (end - at) (drop at (bytes_or_none (get s.held entry))))))) (goes.capacity ∙ looks.capacity)
          (subst (λ (m : Map). Exceeds u.capacity (size m)) map (adds.full full));
      fits = λ within. fits (within_put t u name piece x goes.capacity writes);
    }

-- the first piece has no room
pub put_exceeds : (s t : State) (name bytes piece : List ℕ) (at first end : ℕ) → GoesOn s t (Images s) → Stays s t → piece ≡ take first (drop at bytes) → first ≤ end - at
    → Exceeds t.capacity (size (insert t.held name piece)) → Exceeds s.capacity (size (insert s.held name (take (end - at) (drop at bytes))))
put_exceeds s t name bytes piece at first end looks stays is le over =
    let longer : length piece ≤ length (take (end - at) (drop at bytes)) = omega (arith, ap length is, run_longer (drop at bytes) first (end - at) le) in
    exceeds_longer s.capacity s.held name piece (take (end - at) (drop at bytes)) longer
    (subst (λ (c : Option ℕ). Exceeds c (size (insert s.held name piece))) looks.capacity (subst (λ (m : Map). Exceeds t.capacity (size (insert m name piece))) stays.held over))

pub one_returned : {T : Type 0} (s v : State) (name entry : List ℕ) (number : ℕ) (old : Option Span) (span : Span) (r : Result T OpFault) → old ≡ Some span → entry ≡ entry_name number
    → PutsOne name (Some (take (span.end - span.at) (drop span.at (bytes_or_none (get s.held entry))))) s v r
    → PutsOne name (option_map (λ (s' : Span). take (s'.end - s'.at) (drop s'.at (bytes_or_none (get s.held (entry_name number))))) old) s v r
one_returned s v name entry number old span r is is_entry puts =
    subst (λ (o : Option Span). PutsOne name (option_map (λ (s' : Span). take (s'.end - s'.at) (drop s'.at (bytes_or_none (get s.held (entry_name number))))) o) s v r) (sym is)
    (subst (λ (e : List ℕ). PutsOne name (Some (take (span.end - span.at) (drop span.at (bytes_or_none (get s.held e))))) s v r) is_entry puts)
