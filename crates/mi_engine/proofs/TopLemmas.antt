-- The top call: what is written of a log, completeness, and how many actions are begun.
use Rattle.std.proofs.Common.{◌≡◌, inl, inr, ℕ, zero, suc, Bool, false, List, [], ◌∷◌, ◌++◌, length, take, Result, Ok, Err, OnOk, OnErr, append_assoc, refl, sym, ap, ◌∙◌, arith}
use Rattle.std.proofs.Math.Seq.{take-length}
use Rattle.mi_volume.specs.State.{State, Rose}
use Rattle.mi_source.specs.Counts as counts
use Rattle.mi_base.specs.declared.answers.Cause.{Cause}
use Rattle.mi_base.specs.declared.answers.Cause.TheVariants.{VolumeFault, BadRollback, RecoveryFull, BadImage, SourceFault}
use Rattle.mi_base.specs.declared.answers.Kind.{Kind}
use Rattle.mi_base.specs.declared.answers.Kind.TheVariants.{Done, Listed, Recovered, Refused, Suspended, NoMemory}
use Rattle.mi_model.specs.Causes.{SameCount, Caused, CausedRefusal, Completes}
use Rattle.mi_model.specs.Logs.{WritesFront, Logs}
use Rattle.mi_model.specs.PackageOutcome.{Outcome, kind_of}
use Rattle.mi_model.specs.Words.{Command}
use Rattle.mi_commands.specs.Answers.{IsTold, IsStill, SourceFails, IsOwn, Begins}
use Rattle.mi_commands.specs.Replies.{Says}

-- ---- what is written

pub front_written : {T E : Type 0} (r : Result T E) (old new bytes : List ℕ) → OnOk r (new ≡ old ++ bytes) → OnErr r ((n : ℕ) × (new ≡ old ++ take n bytes)) → WritesFront bytes old new
front_written (Ok x) old new bytes whole front = (length bytes, whole ∙ ap (λ (l : List ℕ). old ++ l) (sym (take-length bytes)))
front_written (Err e) old new bytes whole front = front

take_first : (a b : List ℕ) (n : ℕ) → (m : ℕ) × (take n a ≡ take m (a ++ b))
take_first a b zero = (zero, refl)
take_first [] b (suc n) = (zero, refl)
take_first (x ∷ a) b (suc n) = let more = take_first a b n in (suc more.0, ap (λ (l : List ℕ). x ∷ l) more.1)

take_both : (a b : List ℕ) (n : ℕ) → (m : ℕ) × (a ++ take n b ≡ take m (a ++ b))
take_both [] b n = (n, refl)
take_both (x ∷ a) b n = let more = take_both a b n in (suc more.0, ap (λ (l : List ℕ). x ∷ l) more.1)

-- the first of two pieces failed
pub first_written : (first a b old new : List ℕ) → first ≡ a → WritesFront first old new → WritesFront (a ++ b) old new
first_written first a b old new is front =
    let at = take_first a b front.0 in
    (at.0, front.1 ∙ ap (λ (l : List ℕ). old ++ take front.0 l) is ∙ ap (λ (l : List ℕ). old ++ l) at.1)

-- the second of two pieces may have failed
pub both_written : (first a second b old mid new : List ℕ) → first ≡ a → second ≡ b → mid ≡ old ++ first → WritesFront second mid new → WritesFront (a ++ b) old new
both_written first a second b old mid new is same whole front =
    let at = take_both a b front.0 in
    (at.0, front.1 ∙ ap (λ (l : List ℕ). mid ++ take front.0 l) same ∙ ap (λ (l : List ℕ). l ++ take front.0 b) (whole ∙ ap (λ (l : List ℕ). old ++ l) is) ∙ append_assoc old a (take front.0 b) ∙ ap (λ (l : List ℕ). old ++ l) at.1)

take_twice : (n k : ℕ) (l : List ℕ) → (m : ℕ) × (take n (take k l) ≡ take m l)
take_twice zero k l = (0, refl)
take_twice (suc n) zero l = (0, refl)
take_twice (suc n) (suc k) [] = (0, refl)
take_twice (suc n) (suc k) (x ∷ l) = let more = take_twice n k l in (suc more.0, ap (λ (t : List ℕ). x ∷ t) more.1)

-- the bytes of a reply are written, or a front of them
pub logs : (is_log : List ℕ → Type 0) (kind : Kind) (lost : Bool) (bytes old new : List ℕ) → Says is_log kind bytes → (lost ≡ false → new ≡ old ++ bytes) → WritesFront bytes old new → Logs is_log kind lost old new
logs is_log kind lost bytes old new says whole front = record {
  log = says.log;
  is = says.is;
  whole = λ kept memory. whole kept ∙ ap (λ (l : List ℕ). old ++ l) (says.whole memory);
  front = let twice = take_twice front.0 says.front.0 says.log in (twice.0, front.1 ∙ ap (λ (l : List ℕ). old ++ l) (ap (take front.0) says.front.1 ∙ twice.1));
}

-- ---- completeness: s and u are the volume's states, n and m the source's counts

fault_rose : (s u : State) → Rose s u → SameCount s.faults u.faults → ⊥
fault_rose s u rose same = grind (arith, rose.rose, same.0, same.1)

source_rose : (n m : ℕ) → counts.Rose n m → SameCount n m → ⊥
source_rose n m rose same = grind (arith, rose.rose, same.0, same.1)

-- a fault of the source comes only where the words ask for a package of it
no_source_fault : (source : Type 0) (words : Result Command ℕ) (n m : ℕ) → IsStill source words n m → SourceFails words n m → ⊥
no_source_fault source words n m still fails = source_rose n m fails.1 (still fails.0).1

module _ (volume source : Type 0) (s u : State) (out : Outcome) (words : Result Command ℕ) (n m : ℕ) (v : volume) (same : SameCount s.faults u.faults) (still : IsStill source words n m) where
  told : IsTold volume source words
  told = (v, λ asks. (still asks).0)

  abbrev fails : Type 0
  fails = SourceFails words n m

  module _ (reached : ℕ) where
    decided : (kind : Kind) → IsOwn kind → kind ≡ kind_of out.end → (IsTold volume source words → Begins out reached kind) → Completes out kind reached
    decided kind own is begins = inl (is, (begins told).own own)

    refused : (cause : Cause) → (IsTold volume source words → Begins out reached (Refused cause)) → CausedRefusal volume (IsTold volume source words) out (Rose s u) fails cause → Completes out (Refused cause) reached
    refused VolumeFault begins c = absurd (fault_rose s u c same)
    refused SourceFault begins c = absurd (no_source_fault source words n m still c)
    refused (BadRollback name) begins c = decided (Refused (BadRollback name)) tt (sym (ap kind_of (c v))) begins
    refused (RecoveryFull name) begins c = decided (Refused (RecoveryFull name)) tt (sym (ap kind_of (c v))) begins
    refused (BadImage name) begins c = decided (Refused (BadImage name)) tt (sym (ap kind_of (c v))) begins
    refused other begins c = decided (Refused other) tt (sym (ap kind_of (c told))) begins

    pub completes : (kind : Kind) → (IsTold volume source words → Begins out reached kind) → Caused s.faults u.faults volume (IsTold volume source words) out (Rose s u) fails kind → Completes out kind reached
    completes Done begins c = decided Done tt (sym (ap kind_of (c told).1)) begins
    completes Listed begins c = decided Listed tt (sym (ap kind_of (c v).1)) begins
    completes (Recovered settled) begins c = decided (Recovered settled) tt (sym (ap kind_of (c v))) begins
    completes (Refused cause) begins c = refused cause begins c
    completes (Suspended pause) begins c = absurd (grind (arith, c.entry, c.between, c.exit, c.rose, same.0, same.1))
    completes NoMemory begins c = inr refl
