-- Faults that a `?` hands on.
use Rattle.std.proofs.Common.{◌≡◌, ◌⊎◌, inl, inr, ℕ, zero, suc, ◌≤◌, ◌<◌, List, [], ◌∷◌, length, get_or, Contains, Result, Ok, Err, IsErrOf, refl, sym, ap, subst, ◌∙◌, arith}
use Rattle.mi_source.specs.Paths.{Files}
use Rattle.mi_source.specs.Counts as source
use Rattle.mi_source.specs.declared.fault.SrcFault.{SrcFault}
use Rattle.mi_source.specs.declared.fault.SrcFault.TheVariants as src
use Rattle.mi_script.specs.declared.rec.Rec.{Rec}
use Rattle.mi_undo.specs.declared.fault.OpFault.{OpFault}
use Rattle.mi_undo.specs.declared.fault.OpFault.TheVariants as op
use Rattle.mi_runner.specs.declared.fault.RunFault.{RunFault}
use Rattle.mi_runner.specs.declared.fault.RunFault.TheVariants as run
use Rattle.mi_runner.specs.Faults.{run_fault_of, read_fault_of, IfDiffers}
use Rattle.mi_runner.specs.Steps.{Reads, Differs}

pub read_is : (e : SrcFault) → (read_fault_of e ≡ run.NoMemory) ⊎ (read_fault_of e ≡ run.Source)
read_is src.NoMemory = inl refl
read_is src.Failed = inr refl

pub source_failed_so : (e : SrcFault) → read_fault_of e ≡ run.Source → e ≡ src.Failed
source_failed_so src.NoMemory is = absurd (cc)
source_failed_so src.Failed is = refl

pub never_read : (e : SrcFault) → IfDiffers (read_fault_of e) (λ file stated found. ⊥)
never_read src.NoMemory = tt
never_read src.Failed = tt

pub never_op : (e : OpFault) → IfDiffers (run_fault_of e) (λ file stated found. ⊥)
never_op op.NoMemory = tt
never_op op.Fault = tt
never_op op.Full = tt

pub not_source : (e : OpFault) → run_fault_of e ≡ run.Source → ⊥
not_source op.NoMemory is = cc
not_source op.Fault is = cc
not_source op.Full is = cc

pub fault_not_full : op.Fault ≡ op.Full → ⊥
fault_not_full is = cc

pub memory_not_source : run.NoMemory ≡ run.Source → ⊥
memory_not_source is = cc

pub one_error : {T : Type 0} (e f : RunFault) → ◌≡◌ {A = Result T RunFault} (Err e) (Err f) → e ≡ f
one_error e f is = cc

module _ {S : Type 0} (files : S → Files) (faults : S → ℕ) where
  -- a call of the source that failed behind others
  pub reads_failed : {T U : Type 0} (a b c : S) (e : SrcFault) → files b ≡ files a → faults a ≤ faults b → files c ≡ files b → faults b ≤ faults c → (IsErrOf {T = U} (Err e) src.Failed → source.Rose (faults b) (faults c)) → Reads files faults {T = T} a c (Err (read_fault_of e))
  reads_failed {T} a b c e same counts still more failed = record {
    stays = still ∙ same;
    counts = omega (arith, counts, more);
    rose = λ is. let rose = (failed (ap Err (source_failed_so e (one_error {T = T} (read_fault_of e) run.Source is)))).rose in record { rose = λ below. omega (arith, counts, rose below) };
  }

  -- a call of the area that failed behind calls of the source
  pub reads_op : {T : Type 0} (a b : S) (e : OpFault) → files b ≡ files a → faults a ≤ faults b → Reads files faults {T = T} a b (Err (run_fault_of e))
  reads_op {T} a b e same counts = record { stays = same; counts = counts; rose = λ is. absurd (not_source e (one_error {T = T} (run_fault_of e) run.Source is)) }

  pub reads_ok : {T : Type 0} (a b : S) (x : T) → files b ≡ files a → faults a ≤ faults b → Reads files faults a b (Ok x)
  reads_ok a b x same counts = record { stays = same; counts = counts; rose = λ is. absurd (cc) }

  -- calls behind others
  pub reads_then : {T U : Type 0} (a b c : S) (e : RunFault) → files b ≡ files a → faults a ≤ faults b → Reads files faults {T = U} b c (Err e) → Reads files faults {T = T} a c (Err e)
  reads_then {T} {U} a b c e same counts r = record {
    stays = r.stays ∙ same;
    counts = let more = r.counts in omega (arith, counts, more);
    rose = λ is. let rose = (r.rose (ap Err (one_error {T = T} e run.Source is))).rose in record { rose = λ below. omega (arith, counts, rose below) };
  }

-- what a fault of the area says is said of the segment's
pub fault_handed : {T U P : Type 0} (e : OpFault) → (IsErrOf {T = U} (Err e) op.Fault → P) → IsErrOf {T = T} (Err (run_fault_of e)) run.Volume → P
fault_handed op.NoMemory then is = absurd (cc)
fault_handed op.Fault then is = then refl
fault_handed op.Full then is = absurd (cc)

pub full_handed : {T U P : Type 0} (e : OpFault) → (IsErrOf {T = U} (Err e) op.Full → P) → IsErrOf {T = T} (Err (run_fault_of e)) run.Full → P
full_handed op.NoMemory then is = absurd (cc)
full_handed op.Fault then is = absurd (cc)
full_handed op.Full then is = then refl

pub op_differs : {T told : Type 0} (rs : List Rec) (e : OpFault) → Differs {T = T} told rs (Err (run_fault_of e))
op_differs rs op.NoMemory = record { other = tt; untold = λ s. tt; states = tt }
op_differs rs op.Fault = record { other = tt; untold = λ s. tt; states = tt }
op_differs rs op.Full = record { other = tt; untold = λ s. tt; states = tt }

pub ok_differs : {T told : Type 0} (rs : List Rec) (x : T) → Differs told rs (Ok x)
ok_differs rs x = record { other = tt; untold = λ s. tt; states = tt }

-- a record's length that differs is one of the script's
pub differs_in : {T U told : Type 0} (rs : List Rec) (k : ℕ) (r : Rec) (e : RunFault) → k < length rs → r ≡ get_or rs k r → Differs {T = U} told (r ∷ []) (Err e) → Differs {T = T} told rs (Err e)
differs_in rs k r run.NoMemory below is d = record { other = tt; untold = λ s. tt; states = tt }
differs_in rs k r run.Source below is d = record { other = tt; untold = λ s. tt; states = tt }
differs_in rs k r run.Volume below is d = record { other = tt; untold = λ s. tt; states = tt }
differs_in rs k r run.Full below is d = record { other = tt; untold = λ s. tt; states = tt }
differs_in rs k r (run.SizeDiffers file stated found) below is d = record {
  other = d.other;
  untold = d.untold;
  states = let s = d.states in record { name = s.name; head = s.head; path = s.path; is = at s.is };
}
  where
    one : (k : ℕ) (x y : Rec) → k < 1 → get_or (x ∷ []) k y ≡ y → x ≡ y
    one zero x y below is = is
    one (suc k) x y below is = absurd (omega arith)

    at : {x : Rec} → Contains (r ∷ []) x → Contains rs x
    at {x} among = let same : r ≡ x = one among.0 r x among.1 among.2 in (k, below, subst (λ (y : Rec). get_or rs k y ≡ y) same (sym is))
