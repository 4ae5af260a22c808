-- Answers that a `?` hands on.
use Rattle.std.proofs.Common.{◌≡◌, ◌≢◌, ◌⊎◌, inl, inr, ℕ, List, Result, Ok, Err, OnOk, OnErr, IfOk, IfErr, IsErr, IsErrOf, IsErrAnd, refl, sym, ap, subst}
use Rattle.mi_volume.specs.State.{State, Stays}
use Rattle.mi_volume.specs.Calls.{Writes}
use Rattle.mi_volume.specs.declared.volume.PutFault.{PutFault}
use Rattle.mi_volume.specs.declared.volume.PutFault.TheVariants as put
use Rattle.mi_volume.specs.declared.volume.VolFault.{VolFault}
use Rattle.mi_volume.specs.declared.volume.VolFault.TheVariants as vol
use Rattle.mi_undo.specs.declared.fault.OpFault.{OpFault}
use Rattle.mi_undo.specs.declared.fault.OpFault.TheVariants as op
use Rattle.mi_undo.specs.declared.fault.BackFault.TheVariants as back
use Rattle.mi_undo.specs.declared.fault.UndoError.{UndoError}
use Rattle.mi_undo.specs.declared.fault.UndoError.TheVariants as undo
use Rattle.mi_undo.specs.Faults.{put_fault_of, vol_fault_of, back_fault_of}

pub at_err : {T E : Type 0} (P : Type 0) (r : Result T E) → IsErr r → OnOk r P
at_err P (Ok x) h = absurd (cc)
at_err P (Err e) h = tt

pub value_at_err : {T E : Type 0} (r : Result T E) (P : T → Type 0) → IsErr r → IfOk r P
value_at_err (Ok x) P h = absurd (cc)
value_at_err (Err e) P h = tt

-- Full comes from a write alone
pub full_was : {T : Type 0} (r : Result T OpFault) (e : PutFault) → IsErrAnd r (λ x. x ≡ put_fault_of e) → r ≡ Err op.Full → e ≡ put.Full
full_was (Ok x) e is h = absurd is
full_was (Err x) put.NoMemory is h = cc
full_was (Err x) put.Failed is h = cc
full_was (Err x) put.Full is h = refl

pub never_full : {T : Type 0} (r : Result T OpFault) (e : VolFault) → IsErrAnd r (λ x. x ≡ vol_fault_of e) → r ≡ Err op.Full → ⊥
never_full (Ok x) e is h = is
never_full (Err x) vol.NoMemory is h = cc
never_full (Err x) vol.Failed is h = cc

pub fault_not_full : {T : Type 0} (r : Result T OpFault) → IsErrAnd r (λ x. x ≡ op.Fault) → r ≡ Err op.Full → ⊥
fault_not_full (Ok x) is h = is
fault_not_full (Err x) is h = cc

pub memory_not_full : {T : Type 0} (r : Result T OpFault) → IsErrAnd r (λ x. x ≡ op.NoMemory) → r ≡ Err op.Full → ⊥
memory_not_full (Ok x) is h = is
memory_not_full (Err x) is h = cc

-- an answer that is handed on as it is
pub handed_on : {T U : Type 0} (r : Result T OpFault) (e f : OpFault) → IsErrAnd r (λ x. x ≡ e) → r ≡ Err f → ◌≡◌ {A = Result U OpFault} (Err e) (Err f)
handed_on (Ok x) e f is h = absurd is
handed_on (Err x) e f is h = ap Err (let same : e ≡ f = cc in same)

-- an error that is handed on has what it had
pub err_handed : {T E : Type 0} (r : Result T E) (e : E) (P : E → Type 0) → IsErrAnd r (λ x. x ≡ e) → P e → IfErr r P
err_handed (Ok x) e P is p = absurd is
err_handed (Err x) e P is p = subst P (sym is) p

pub unless_fault : (P : Type 0) (e : OpFault) → (IsErrOf {T = Unit {0}} (Err e) op.NoMemory ⊎ IsErrOf {T = Unit {0}} (Err e) op.Full → P) → (e ≡ op.Fault → ⊥) → P
unless_fault P op.NoMemory then other = then (inl refl)
unless_fault P op.Full then other = then (inr refl)
unless_fault P op.Fault then other = absurd (other refl)

-- after an error of a write that is no fault
pub put_stays : {T U : Type 0} (s t : State) (name bytes : List ℕ) (r : Result T OpFault) (e : PutFault) → IsErrAnd r (λ x. x ≡ put_fault_of e) → Writes {T = U} name bytes s t (Err e) → IfErr r (λ x. x ≢ op.Fault → Stays s t)
put_stays s t name bytes (Ok x) e is writes = absurd is
put_stays s t name bytes (Err x) put.NoMemory is writes = λ other. writes.no_memory refl
put_stays s t name bytes (Err x) put.Full is writes = λ other. writes.full refl
put_stays s t name bytes (Err x) put.Failed is writes = λ other. absurd (other is)

pub back_was_full : (e : OpFault) → back_fault_of e ≡ back.Full → e ≡ op.Full
back_was_full op.NoMemory is = absurd (cc)
back_was_full op.Fault is = absurd (cc)
back_was_full op.Full is = refl

pub on_err : {T E : Type 0} (P : Type 0) (r : Result T E) → IsErr r → OnErr r P → P
on_err P (Ok x) fails p = absurd (cc)
on_err P (Err e) fails p = p

pub all_err : {T E : Type 0} (P : Type 0) (r : Result T E) → P → OnErr r P
all_err P (Ok x) p = tt
all_err P (Err e) p = p

pub memory_no_fault : {T : Type 0} (r : Result T UndoError) → IsErrAnd r (λ x. x ≡ undo.NoMemory) → r ≡ Err undo.Fault → ⊥
memory_no_fault (Ok x) is h = is
memory_no_fault (Err x) is h = cc
