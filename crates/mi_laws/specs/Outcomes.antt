-- How many outcomes a run comes to. (This project's own.)
use Rattle.std.specs.Prelude.{◌≡◌}
use Rattle.mi_model.specs.PackageOutcome.{Outcome}
use Rattle.mi_model.specs.Outcome.{Handed, ComesTo}

pub record RunsComeToOne : Type 0 where
  -- whatever is handed in comes to an outcome
  pub some : (h : Handed) → (o : Outcome) × ComesTo h o
  -- and to no other
  pub only : (h : Handed) (o p : Outcome) → ComesTo h o → ComesTo h p → o ≡ p
