-- What settling and a run leave are events.
use Rattle.std.proofs.Common.{◌≡◌, ◌⊎◌, ℕ, List, Result, Ok, Err, inl, inr, refl, sym, ap, ◌∙◌}
use Rattle.mi_volume.specs.Maps.{Map}
use Rattle.mi_volume.specs.State.{State, GoesOn}
use Rattle.mi_undo.specs.Stands.{StandsFor, stands}
use Rattle.mi_undo.specs.Keeps.{Each}
use Rattle.mi_base.specs.Machine.{Machine, IsMachine, volume_of}
use Rattle.mi_base.proofs.MachineLemmas.{machine_back}
use Rattle.mi_base.specs.declared.answers.Kind.{Kind}
use Rattle.mi_base.specs.declared.answers.Kind.TheVariants as kind
use Rattle.mi_base.specs.declared.answers.Place.{Place}
use Rattle.mi_base.specs.declared.answers.Place.TheVariants.{InRollback, InCommit}
use Rattle.mi_model.specs.Words.{Command}
use Rattle.mi_model.specs.PackageOutcome.{Outcome}
use Rattle.mi_model.specs.PackageOutcome as o
use Rattle.mi_model.specs.Outcome.{ComesTo, of_words, of_former, outcome}
use Rattle.mi_model.specs.Leaves.{StandsAfter, MayStand, AtPause, AtExit}
use Rattle.mi_laws.specs.Histories.{Call, Left, Former, After, Answered, Stopped, Settling, MayAt, Leaves, IsEvent, over}
use Rattle.mi_laws.specs.Moments.{IsSettled, SettlingIsEvent, SettlesByEvents, IsLeftBySettling, RunIsEvent}
use Rattle.mi_laws.proofs.MachineLemmas.{is_outcome}

-- weaker of each moment
pub goes_weaker : (P Q : Map → Type 0) (s t : State) → ((d : Map) → P d → Q d) → GoesOn s t P → GoesOn s t Q
goes_weaker P Q s t weaker g = record { later = g.later; since = λ u d early left. by u d (g.since u d early left); capacity = g.capacity; faults = g.faults }
  where
    by : (u : ℕ) (d : Map) → s.left_since u d ⊎ P d → s.left_since u d ⊎ Q d
    by u d (inl l) = inl l
    by u d (inr p) = inr (weaker d p)

-- ---- settling

settled_map : (d d' : Map) (r : Result Map (List ℕ)) → stands d ≡ r → IsLeftBySettling d d' → stands d' ≡ stands d
settled_map d d' (Ok F) is s = s.read F is ∙ sym is
settled_map d d' (Err bad) is s = ap stands (s.unread bad is)

pub law_settle : SettlesByEvents
law_settle d d' left = settled_map d d' (stands d) refl left

settled_by : (old new : State) (r : Result Map (List ℕ)) → stands old.held ≡ r → IsSettled old new → SettlingIsEvent old new
settled_by old new (Ok F) is s = record {
  moments = goes_weaker (StandsFor F) (IsEvent old.held Settling) old new (λ d stand. stand ∙ sym is) (s.stops F is);
  exit = λ d image. s.leaves F is d image ∙ sym is;
}
settled_by old new (Err bad) is s = record {
  moments = goes_weaker (λ d. d ≡ old.held) (IsEvent old.held Settling) old new (λ d same. ap stands same) (s.unread bad is);
  exit = λ d image. ap stands (s.unread_leaves bad is d image);
}

-- each moment and the end of settling, by its clauses
pub settling_is_event : (old new : State) → IsSettled old new → SettlingIsEvent old new
settling_is_event old new s = settled_by old new (stands old.held) refl s

-- ---- a run, by the clauses of the top call

-- without a map that it stands for nothing is done
never_done : (c : Call) (d : Map) (bad : List ℕ) (r : Result Command ℕ) (m : Machine) → stands d ≡ Err bad → (of_words (over c d) r).end ≡ o.Done m → ⊥
never_done c d bad (Ok command) m is done =
    let refused = ap (λ (r : Result Map (List ℕ)). (of_former (over c d) command r).end) (sym is) ∙ done in cc
never_done c d bad (Err place) m is done = cc

none_done : (c : Call) (d : Map) (bad : List ℕ) (out : Outcome) (m : Machine) → stands d ≡ Err bad → ComesTo (over c d) out → out.end ≡ o.Done m → ⊥
unfolding outcome
none_done c d bad out m is comes done = never_done c d bad _ m is (is_outcome c d out m comes done)

module _ (c : Call) (old new : State) (k : Kind) (out : Outcome) (comes : ComesTo (over c old.held) out) (rose : Type 0)
    -- the machine that the run makes has a record for each entry
    (spelled : (m : Machine) → out.end ≡ o.Done m → IsMachine m) where
  module _ (F : Map) (stand : stands old.held ≡ Ok F) where
    former : (d : Map) → StandsFor F d → stands d ≡ stands old.held
    former d is = is ∙ sym stand

    after : (d : Map) → StandsAfter out d → Leaves c old.held After d
    after d a = (a.0, record { outcome = out; comes = comes; done = a.1 }, record { map = volume_of a.0; stands = a.2; spells = machine_back a.0 (spelled a.0 a.1) })

    stopped : (told : Type 0) → told → (d : Map) → MayStand told F out rose k d → (left : Left) × IsEvent old.held (Stopped c left) d
    stopped told t d (inl is) = (Former, former d is)
    stopped told t d (inr a) = (After, after d (a.1 t))

    paused : (told : Type 0) → told → (d : Map) (place : Place) → AtPause told F out place d → (left : Left) × MayAt place left × Leaves c old.held left d
    paused told t d InRollback is = (Former, tt, former d is)
    paused told t d InCommit (inl is) = (Former, tt, former d is)
    paused told t d InCommit (inr a) = (After, tt, after d (a t))

    ended : (told : Type 0) → told → (d : Map) (k : Kind) → AtExit told F out k d → (left : Left) × IsEvent old.held (Answered c k left) d
    ended told t d kind.Done at = (After, (tt, after d (at t)))
    ended told t d kind.Listed at = (Former, (tt, former d at))
    ended told t d (kind.Recovered s) at = (Former, (tt, former d at))
    ended told t d (kind.Refused cause) at = (Former, (tt, former d at))
    ended told t d (kind.Suspended pause) at = let p = paused told t d pause.place at in (p.0, (p.1, p.2))
    ended told t d kind.NoMemory at = (Former, (tt, former d at))

  -- of an area that isn't read nothing changes
  same_ended : (bad : List ℕ) → stands old.held ≡ Err bad → (k : Kind) → (k ≡ kind.Done → (m : Machine) × (out.end ≡ o.Done m)) → (d : Map) → d ≡ old.held → (left : Left) × IsEvent old.held (Answered c k left) d
  same_ended bad is kind.Done done d same = let made = done refl in absurd (none_done c old.held bad out made.0 is comes made.1)
  same_ended bad is kind.Listed done d same = (Former, (tt, ap stands same))
  same_ended bad is (kind.Recovered s) done d same = (Former, (tt, ap stands same))
  same_ended bad is (kind.Refused cause) done d same = (Former, (tt, ap stands same))
  same_ended bad is (kind.Suspended pause) done d same = (Former, (at pause.place, ap stands same))
    where
      at : (place : Place) → MayAt place Former
      at InRollback = tt
      at InCommit = tt
  same_ended bad is kind.NoMemory done d same = (Former, (tt, ap stands same))

  -- the clauses stops, leaves, unread and caused of the top call, with that the devices tell
  module _ (told : Type 0) (t : told)
      (stops : (F : Map) → stands old.held ≡ Ok F → GoesOn old new (MayStand told F out rose k))
      (leaves : (F : Map) → stands old.held ≡ Ok F → Each new (AtExit told F out k))
      (unread : (bad : List ℕ) → stands old.held ≡ Err bad → GoesOn old new (λ d. d ≡ old.held))
      (unread_leaves : (bad : List ℕ) → stands old.held ≡ Err bad → Each new (λ d. d ≡ old.held))
      (caused : k ≡ kind.Done → (m : Machine) × (out.end ≡ o.Done m)) where
    by_former : (r : Result Map (List ℕ)) → stands old.held ≡ r → RunIsEvent c k old new
    by_former (Ok F) is = record {
      moments = goes_weaker (MayStand told F out rose k) (λ d. (left : Left) × IsEvent old.held (Stopped c left) d) old new (stopped F is told t) (stops F is);
      exit = λ d image. ended F is told t d k (leaves F is d image);
    }
    by_former (Err bad) is = record {
      moments = goes_weaker (λ d. d ≡ old.held) (λ d. (left : Left) × IsEvent old.held (Stopped c left) d) old new (λ d same. (Former, ap stands same)) (unread bad is);
      exit = λ d image. same_ended bad is k caused d (unread_leaves bad is d image);
    }

    pub run_is_event : RunIsEvent c k old new
    run_is_event = by_former (stands old.held) refl
