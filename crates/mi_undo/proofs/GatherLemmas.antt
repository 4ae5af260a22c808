-- Bytes of an entry that are gathered before they are written.
use Rattle.std.proofs.Common.{◌≡◌, ℕ, ◌+◌, ◌≤◌, ◌<◌, List, [], ◌∷◌, ◌++◌, length, take, drop, Option, Some, None, Result, Ok, Err, IsErr, IsErrOf, IsErrAnd, refl, sym, ap, subst, ◌∙◌, arith, append_assoc, length-append, length-take, length-drop}
use Rattle.std.proofs.lemmas.List.{append-nil, take_all}
use Rattle.std.proofs.lemmas.Result.{on_ok_weaker}
use Rattle.std.specs.FinMap.{get, insert}
use Rattle.mi_volume.specs.Maps.{Map, Exceeds, size, bytes_or_none}
use Rattle.mi_volume.specs.State.{State, GoesOn, Images, Stays}
use Rattle.mi_undo.specs.declared.fault.OpFault.{OpFault}
use Rattle.mi_undo.specs.declared.fault.OpFault.TheVariants as op
use Rattle.mi_undo.specs.Notes.{old_bytes}
use Rattle.mi_undo.specs.Steps.{Adds}
use Rattle.mi_undo.specs.Entry.{Gathers}
use Rattle.mi_undo.proofs.FaultLemmas.{at_err}
use Rattle.mi_undo.proofs.StepLemmas.{only_then, only_looks, no_more_start, no_more_looked, no_more_held, no_more_longer}
use Rattle.mi_undo.proofs.SpanLemmas.{Added, added_start}
use Rattle.mi_undo.proofs.AddLemmas.{added_then, adds_then, adds_failed, adds_longer}

-- what is held and what is pending are no fewer bytes than what is held
pub held_of : (written left all : List ℕ) → written ++ left ≡ all → length written ≤ length all
held_of written left all is = omega (arith, ap length is, length-append written left)

-- of all that is held and pending, these bytes are written
pub gathered : {T : Type 0} (s t : State) (name before pending bytes left written : List ℕ) (x : T) → Added name before written s t → written ++ left ≡ pending ++ bytes → Gathers name before pending bytes left s t (Ok x)
gathered s t name before pending bytes left written x added is =
    let fewer = held_of written left (pending ++ bytes) is in
    record {
      only = added.only;
      ok = (written, (added.held, is));
      most = no_more_longer s t name (length (before ++ written)) (length (before ++ (pending ++ bytes))) (omega (arith, fewer, length-append before written, length-append before (pending ++ bytes))) (no_more_held s t name (before ++ written) added.held);
      full = λ full. absurd (cc);
    }

-- nothing is written
pub ungathered : {T : Type 0} (s : State) (name before pending : List ℕ) (x : T) → get s.held name ≡ Some before → Gathers name before pending [] pending s s (Ok x)
ungathered s name before pending x is = gathered s s name before pending [] pending [] x (added_start s name before is) (sym (append-nil pending))

pub gather_failed : {T : Type 0} (s t : State) (name before pending bytes left : List ℕ) (r : Result T OpFault) → Adds name before (pending ++ bytes) s t r → IsErr r → Gathers name before pending bytes left s t r
gather_failed s t name before pending bytes left r adds fails = record { only = adds.only; ok = at_err _ r fails; most = adds.most; full = adds.full }

-- what is written by then
pub written_of : {T : Type 0} (s t : State) (name before pending bytes left : List ℕ) (x : T) (g : Gathers name before pending bytes left s t (Ok x)) → Added name before g.ok.0 s t
written_of s t name before pending bytes left x g = record { only = g.only; held = g.ok.1.0 }

pub failed_of : {T : Type 0} (s t : State) (name before pending bytes left : List ℕ) (e : OpFault) → Gathers {T = T} name before pending bytes left s t (Err e) → Adds {T = T} name before (pending ++ bytes) s t (Err e)
failed_of s t name before pending bytes left e g = record { only = g.only; ok = tt; most = g.most; full = g.full }

-- one call after another
pub gathers_then : {T U : Type 0} (s t u : State) (name before pending xs middle ys left : List ℕ) (x : U) (r : Result T OpFault) → (g : Gathers name before pending xs middle s t (Ok x)) → Gathers name (before ++ g.ok.0) middle ys left t u r → Gathers name before pending (xs ++ ys) left s u r
gathers_then {T} {U} s t u name before pending xs middle ys left x (Ok y) g h =
    gathered s u name before pending (xs ++ ys) left (g.ok.0 ++ h.ok.0) y
    (added_then s t u name before g.ok.0 h.ok.0 (written_of s t name before pending xs middle x g) (written_of t u name (before ++ g.ok.0) middle ys left y h))
    (append_assoc g.ok.0 h.ok.0 left ∙ ap (λ (l : List ℕ). g.ok.0 ++ l) h.ok.1.1 ∙ sym (append_assoc g.ok.0 middle ys) ∙ ap (λ (l : List ℕ). l ++ ys) g.ok.1.1 ∙ append_assoc pending xs ys)
gathers_then {T} {U} s t u name before pending xs middle ys left x (Err e) g h =
    gather_failed s u name before pending (xs ++ ys) left (Err e)
    (subst (λ (l : List ℕ). Adds {T = T} name before l s u (Err e)) (sym (append_assoc g.ok.0 middle ys) ∙ ap (λ (l : List ℕ). l ++ ys) g.ok.1.1 ∙ append_assoc pending xs ys)
    (adds_then s t u name before g.ok.0 (middle ++ ys) (Err e) (written_of s t name before pending xs middle x g) (failed_of t u name (before ++ g.ok.0) middle ys left e h))) refl

-- with another value
pub gathers_ok : {T U : Type 0} (s t : State) (name before pending bytes left : List ℕ) (x : T) (y : U) → Gathers name before pending bytes left s t (Ok x) → Gathers name before pending bytes left s t (Ok y)
gathers_ok s t name before pending bytes left x y g = record { only = g.only; ok = g.ok; most = g.most; full = λ full. absurd (cc) }

-- what is added to the name at once, where nothing is pending
pub gathers_added : {T : Type 0} (s t : State) (name before pending bytes left : List ℕ) (r : Result T OpFault) → pending ≡ [] → left ≡ [] → Adds name before bytes s t r → Gathers name before pending bytes left s t r
gathers_added {T} s t name before pending bytes left (Ok x) nothing none adds =
    gathered s t name before pending bytes left bytes x (record { only = adds.only; held = adds.ok }) (ap (λ (l : List ℕ). bytes ++ l) none ∙ append-nil bytes ∙ ap (λ (l : List ℕ). l ++ bytes) (sym nothing))
gathers_added {T} s t name before pending bytes left (Err e) nothing none adds =
    gather_failed s t name before pending bytes left (Err e) (subst (λ (l : List ℕ). Adds {T = T} name before (l ++ bytes) s t (Err e)) (sym nothing) adds) refl

-- what is pending behind a good call gets more
pub gathers_more : {T U : Type 0} (s t : State) (name before pending middle bytes left : List ℕ) (x : T) (y : U) → Gathers name before pending [] middle s t (Ok x) → left ≡ middle ++ bytes → Gathers name before pending bytes left s t (Ok y)
gathers_more s t name before pending middle bytes left x y g is =
    gathered s t name before pending bytes left g.ok.0 y (written_of s t name before pending [] middle x g)
    (ap (λ (l : List ℕ). g.ok.0 ++ l) is ∙ sym (append_assoc g.ok.0 middle bytes) ∙ ap (λ (l : List ℕ). l ++ bytes) (g.ok.1.1 ∙ append-nil pending))

-- what was read before
pub gathers_looked : {T : Type 0} (s t u : State) (name before pending bytes left : List ℕ) (r : Result T OpFault) → GoesOn s t (Images s) → Stays s t → Gathers name before pending bytes left t u r → Gathers name before pending bytes left s u r
gathers_looked s t u name before pending bytes left r goes stays g = record {
  only = only_then s t u name (only_looks s t name goes stays) g.only;
  ok = on_ok_weaker r (λ w. (w.0, (w.1.0 ∙ ap (λ (m : Map). insert m name (before ++ w.0)) stays.held, w.1.1))) g.ok;
  most = no_more_looked s t u name (length (before ++ (pending ++ bytes))) stays.held g.most;
  full = λ full. subst (λ (c : Option ℕ). Exceeds c (size (insert s.held name (before ++ (pending ++ bytes))))) goes.capacity (subst (λ (m : Map). Exceeds t.capacity (size (insert m name (before ++ (pending ++ bytes))))) stays.held (g.full full));
}

-- a failed look
pub look_failed : {T : Type 0} (s t : State) (name before pending bytes left : List ℕ) (r : Result T OpFault) → GoesOn s t (Images s) → Stays s t → IsErr r → (IsErrOf r op.Full → ⊥) → Gathers name before pending bytes left s t r
look_failed s t name before pending bytes left r goes stays fails never =
    gather_failed s t name before pending bytes left r
    (adds_failed s t name before (pending ++ bytes) r (only_looks s t name goes stays) (no_more_start s t name (length (before ++ (pending ++ bytes))) stays.held) fails never) fails

-- an error for want of memory, behind a good call
pub memory_failed : {T U : Type 0} (s t : State) (name before pending xs middle bytes left : List ℕ) (x : U) (r : Result T OpFault) → Gathers name before pending xs middle s t (Ok x) → length xs ≤ length bytes → IsErr r → (IsErrOf r op.Full → ⊥) → Gathers name before pending bytes left s t r
memory_failed s t name before pending xs middle bytes left x r g le fails never =
    let longer : length (before ++ (pending ++ xs)) ≤ length (before ++ (pending ++ bytes)) =
    omega (arith, le, length-append before (pending ++ xs), length-append before (pending ++ bytes), length-append pending xs, length-append pending bytes) in
    gather_failed s t name before pending bytes left r
    (adds_failed s t name before (pending ++ bytes) r g.only (no_more_longer s t name (length (before ++ (pending ++ xs))) (length (before ++ (pending ++ bytes))) longer g.most) fails never) fails

-- an error that is handed on, and stays one for more bytes
pub gathers_as : {T U : Type 0} (s t : State) (name before pending xs middle bytes left : List ℕ) (r : Result T OpFault) (e : OpFault) → Gathers {T = U} name before pending xs middle s t (Err e) → IsErrAnd r (λ x. x ≡ e) → IsErr r → length xs ≤ length bytes → Gathers name before pending bytes left s t r
gathers_as {T} {U} s t name before pending xs middle bytes left (Ok x) e g is fails le = absurd is
gathers_as {T} {U} s t name before pending xs middle bytes left (Err x) e g is fails le =
    let adds : Adds {T = T} name before (pending ++ xs) s t (Err x) = record { only = g.only; ok = tt; most = g.most; full = λ full. g.full (ap Err (same_fault e x is full)) } in
    gather_failed s t name before pending bytes left (Err x)
    (adds_longer s t name before (pending ++ xs) (pending ++ bytes) (Err x) adds fails (omega (arith, le, length-append pending xs, length-append pending bytes))) fails
  where
    same_fault : (e x : OpFault) → x ≡ e → IsErrOf {T = T} (Err x) op.Full → e ≡ op.Full
    same_fault e x is full = cc

pub nothing_left : (l : List ℕ) (n : ℕ) → length l + n ≤ n → l ≡ []
nothing_left [] n le = refl
nothing_left (x ∷ l) n le = absurd (omega (arith, le))

pub whole_old : (o : Option (List ℕ)) (n : ℕ) → n ≡ length (old_bytes o) → take n (drop 0 (bytes_or_none o)) ≡ old_bytes o
whole_old None n is = take_all n [] (omega (arith, is))
whole_old (Some b) n is = take_all n b (omega (arith, is))

pub no_old : (o : Option (List ℕ)) → length (old_bytes o) ≡ 0 → old_bytes o ≡ []
no_old o none = empty (old_bytes o) none
  where
    empty : (l : List ℕ) → length l ≡ 0 → l ≡ []
    empty [] none = refl
    empty (x ∷ l) none = absurd (omega (arith, none))

-- where a read behind these bytes gives nothing, they are all that was asked for
pub piece_ended : (bytes whole : List ℕ) (n len : ℕ) → bytes ≡ take (length bytes) whole → length bytes < len → 0 < n → length (take n (drop (length bytes) whole)) ≡ 0 → bytes ≡ take len whole
piece_ended bytes whole n len front less some none =
    let short : length whole ≤ length bytes = omega (arith, none, length-take n (drop (length bytes) whole), length-drop (length bytes) whole) in
    front ∙ take_all (length bytes) whole short ∙ sym (take_all len whole (omega arith))
