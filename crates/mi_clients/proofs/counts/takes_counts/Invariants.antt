use Rattle.mi_model.specs.World.{World}
use Rattle.mi_records.specs.Choices.{IsAsked}
use Rattle.mi_clients.proofs.CountLemmas.{Taking}
use Rattle.mi_clients.proofs.counts.takes_counts.Given as goal

abbrev pub invariant-loop-row : goal.invariant-loop-row
invariant-loop-row g l = (w : World) → IsAsked (g.S.Env.lookups l.seen) (g.S.Sees.choices l.seen) (g.S.Sees.rows l.seen) w → Taking w l.row-iterator
