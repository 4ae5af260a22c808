-- Each moment and the end of a call on a volume is an event. (This project's own.)
use Rattle.std.specs.Prelude.{◌≡◌, ℕ, List, Ok, Err}
use Rattle.mi_volume.specs.Maps.{Map}
use Rattle.mi_volume.specs.State.{State, GoesOn}
use Rattle.mi_undo.specs.Stands.{StandsFor, stands}
use Rattle.mi_undo.specs.Keeps.{Each}
use Rattle.mi_base.specs.declared.answers.Kind.{Kind}
use Rattle.mi_laws.specs.Histories.{Call, Left, Answered, Stopped, Settling, IsEvent}

-- a run with this answer: a stop at any of its moments, and its end
pub record RunIsEvent (c : Call) (kind : Kind) (old new : State) : Type 0 where
  pub moments : GoesOn old new (λ d. (left : Left) × IsEvent old.held (Stopped c left) d)
  pub exit : Each new (λ d. (left : Left) × IsEvent old.held (Answered c kind left) d)

-- What the clauses of settling allow, where nothing was dirty at its start.
pub record IsSettled (old new : State) : Type 0 where
  pub stops : (F : Map) → stands old.held ≡ Ok F → GoesOn old new (StandsFor F)
  pub leaves : (F : Map) → stands old.held ≡ Ok F → Each new (StandsFor F)
  pub unread : (bad : List ℕ) → stands old.held ≡ Err bad → GoesOn old new (λ d. d ≡ old.held)
  pub unread_leaves : (bad : List ℕ) → stands old.held ≡ Err bad → Each new (λ d. d ≡ old.held)

pub record SettlingIsEvent (old new : State) : Type 0 where
  pub moments : GoesOn old new (IsEvent old.held Settling)
  pub exit : Each new (IsEvent old.held Settling)

-- a map that the clauses of settling allow, at a moment or at its end, over d
pub record IsLeftBySettling (d d' : Map) : Type 0 where
  pub read : (F : Map) → stands d ≡ Ok F → StandsFor F d'
  pub unread : (bad : List ℕ) → stands d ≡ Err bad → d' ≡ d

abbrev pub SettlesByEvents : Type 0
SettlesByEvents = (d d' : Map) → IsLeftBySettling d d' → IsEvent d Settling d'
