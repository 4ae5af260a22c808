-- Bytes that are added to a name by several calls.
use Rattle.std.proofs.Common.{◌≡◌, ℕ, ◌≤◌, List, ◌++◌, length, Option, Some, Result, Ok, Err, IsErr, IsErrOf, IsErrAnd, ap, subst, ◌∙◌, arith, append_assoc, length-append}
use Rattle.std.proofs.lemmas.Result.{on_ok_weaker}
use Rattle.std.specs.FinMap.{get, insert}
use Rattle.mi_volume.specs.Maps.{Map, Exceeds, size, bytes_or_none}
use Rattle.mi_volume.specs.State.{State, GoesOn, ImagesOf}
use Rattle.mi_volume.specs.Calls.{Writes}
use Rattle.mi_volume.specs.declared.volume.PutFault.{PutFault}
use Rattle.mi_volume.specs.declared.volume.PutFault.TheVariants as put
use Rattle.mi_volume.proofs.MapLemmas.{get-insert_same}
use Rattle.mi_undo.specs.declared.fault.OpFault.{OpFault}
use Rattle.mi_undo.specs.declared.fault.OpFault.TheVariants as op
use Rattle.mi_undo.specs.Steps.{OnlyChanges, HoldsNoMore, Adds}
use Rattle.mi_undo.proofs.FaultLemmas.{at_err}
use Rattle.mi_undo.proofs.StepLemmas.{only_then, insert_twice, exceeds_longer, no_more_then, no_more_held, no_more_longer, no_more_written}
use Rattle.mi_undo.proofs.SpanLemmas.{Added}

pub added_then : (s t u : State) (name before xs ys : List ℕ) → Added name before xs s t → Added name (before ++ xs) ys t u → Added name before (xs ++ ys) s u
added_then s t u name before xs ys first second = record {
  only = only_then s t u name first.only second.only;
  held = second.held ∙ ap (λ (m : Map). insert m name ((before ++ xs) ++ ys)) first.held ∙ insert_twice s.held name (before ++ xs) ((before ++ xs) ++ ys) ∙ ap (λ (b : List ℕ). insert s.held name b) (append_assoc before xs ys);
}

pub added_get : (s t : State) (name before xs : List ℕ) → Added name before xs s t → get t.held name ≡ Some (before ++ xs)
added_get s t name before xs added = ap (λ (m : Map). get m name) added.held ∙ get-insert_same s.held name (before ++ xs)

pub adds_then : {T : Type 0} (s t u : State) (name before xs ys : List ℕ) (r : Result T OpFault) → Added name before xs s t → Adds name (before ++ xs) ys t u r → Adds name before (xs ++ ys) s u r
adds_then s t u name before xs ys r first second = record {
  only = only_then s t u name first.only second.only;
  ok = on_ok_weaker r (λ held. held ∙ same_map) second.ok;
  most = no_more_then s t u name (before ++ xs) (length (before ++ (xs ++ ys))) (added_get s t name before xs first) (omega (arith, length-append before (xs ++ ys), length-append xs ys, length-append before xs))
      (subst (λ (b : List ℕ). HoldsNoMore name (length b) t u) (append_assoc before xs ys) second.most);
  full = λ full. subst (λ (c : Option ℕ). Exceeds c (size (insert s.held name (before ++ (xs ++ ys))))) first.only.goes.capacity (subst (λ (m : Map). Exceeds t.capacity (size m)) same_map (second.full full));
}
  where
    same_map : insert t.held name ((before ++ xs) ++ ys) ≡ insert s.held name (before ++ (xs ++ ys))
    same_map = ap (λ (m : Map). insert m name ((before ++ xs) ++ ys)) first.held ∙ insert_twice s.held name (before ++ xs) ((before ++ xs) ++ ys) ∙ ap (λ (b : List ℕ). insert s.held name b) (append_assoc before xs ys)

pub adds_added : {T : Type 0} (s t : State) (name before xs : List ℕ) (x : T) → Added name before xs s t → Adds name before xs s t (Ok x)
adds_added s t name before xs x added = record { only = added.only; ok = added.held; most = no_more_held s t name (before ++ xs) added.held; full = λ full. absurd (cc) }

-- a write at the end of the name
pub put_added : {T : Type 0} (s t : State) (name before piece : List ℕ) (x : T) → get s.held name ≡ Some before → GoesOn s t (ImagesOf name s) → Writes name (bytes_or_none (get s.held name) ++ piece) s t (Ok x) → Added name before piece s t
put_added s t name before piece x is goes writes = record {
  only = record { goes = goes; others = writes.others; dirty = writes.dirty };
  held = writes.ok ∙ ap (λ (o : Option (List ℕ)). insert s.held name (bytes_or_none o ++ piece)) is;
}

pub put_failed : {T U : Type 0} (s t : State) (name before piece more : List ℕ) (r : Result T OpFault) (w : Result U PutFault) → get s.held name ≡ Some before → GoesOn s t (ImagesOf name s) → Writes name (bytes_or_none (get s.held name) ++ piece) s t w
    → IsErr r → (IsErrOf r op.Full → IsErrOf w put.Full) → Adds name before (piece ++ more) s t r
put_failed s t name before piece more r w is goes writes fails full = record {
  only = record { goes = goes; others = writes.others; dirty = writes.dirty };
  ok = at_err _ r fails;
  most =
      let long : length (bytes_or_none (get s.held name) ++ piece) ≡ length (before ++ piece) = ap (λ (o : Option (List ℕ)). length (bytes_or_none o ++ piece)) is in
      no_more_longer s t name (length (bytes_or_none (get s.held name) ++ piece)) (length (before ++ (piece ++ more)))
      (omega (arith, long, length-append before piece, length-append before (piece ++ more), length-append piece more)) (no_more_written s t name (bytes_or_none (get s.held name) ++ piece) w writes);
  full = λ is_full.
      let longer : length (before ++ piece) ≤ length (before ++ (piece ++ more)) = omega (arith, length-append before piece, length-append before (piece ++ more), length-append piece more) in
      exceeds_longer s.capacity s.held name (before ++ piece) (before ++ (piece ++ more)) longer
      (subst (λ (o : Option (List ℕ)). Exceeds s.capacity (size (insert s.held name (bytes_or_none o ++ piece)))) is (writes.exceeds (full is_full)));
}

-- with no Full, whatever is added
pub adds_failed : {T : Type 0} (s t : State) (name before xs : List ℕ) (r : Result T OpFault) → OnlyChanges name s t → HoldsNoMore name (length (before ++ xs)) s t → IsErr r → (IsErrOf r op.Full → ⊥) → Adds name before xs s t r
adds_failed s t name before xs r only most fails full = record { only = only; ok = at_err _ r fails; most = most; full = λ is_full. absurd (full is_full) }

-- an answer that is handed on
pub adds_as : {T U : Type 0} (s t : State) (name before xs : List ℕ) (r : Result T OpFault) (e : OpFault) → Adds {T = U} name before xs s t (Err e) → IsErrAnd r (λ x. x ≡ e) → Adds name before xs s t r
adds_as {T} {U} s t name before xs (Ok x) e adds is = absurd is
adds_as {T} {U} s t name before xs (Err x) e adds is = record { only = adds.only; ok = tt; most = adds.most; full = λ full. adds.full (ap Err (same_fault e x is full)) }
  where
    same_fault : (e x : OpFault) → x ≡ e → IsErrOf {T = T} (Err x) op.Full → e ≡ op.Full
    same_fault e x is full = cc

-- an error stays one for more bytes
pub adds_longer : {T : Type 0} (s t : State) (name before xs ys : List ℕ) (r : Result T OpFault) → Adds name before xs s t r → IsErr r → length xs ≤ length ys → Adds name before ys s t r
adds_longer s t name before xs ys r adds fails le = record {
  only = adds.only;
  ok = at_err _ r fails;
  most = no_more_longer s t name (length (before ++ xs)) (length (before ++ ys)) (omega (arith, le, length-append before xs, length-append before ys)) adds.most;
  full = λ full. exceeds_longer s.capacity s.held name (before ++ xs) (before ++ ys) (omega (arith, le, length-append before xs, length-append before ys)) (adds.full full);
}
