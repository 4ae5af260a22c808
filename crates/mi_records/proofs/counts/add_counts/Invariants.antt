use Rattle.std.specs.List.{AllByRecursion}
use Rattle.mi_schema.specs.RowsOf.{rows_in}
use Rattle.mi_model.specs.RegistryGuards.{is_guarded_value}
use Rattle.mi_model.specs.World.{World}
use Rattle.mi_records.specs.Choices.{IsAsked}
use Rattle.mi_records.specs.Clients.{IsOwn}
use Rattle.mi_records.specs.Removing.{Guards}
use Rattle.mi_records.proofs.CountLemmas.{Counting}
use Rattle.mi_records.proofs.counts.add_counts.Given as goal

abbrev pub invariant-loop-row : goal.invariant-loop-row
invariant-loop-row g l = record {
  counting : (w : World) → IsAsked (g.S.Env.lookups l.seen) (g.S.Sees.choices l.seen) (g.S.Sees.rows l.seen) w → Guards l.fn.set (is_guarded_value w) → Counting w l.set l.row-iterator;
  own : AllByRecursion (IsOwn (rows_in (g.S.Sees.rows l.seen))) l.row-iterator;
}
