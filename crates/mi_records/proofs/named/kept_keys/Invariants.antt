use Rattle.std.proofs.Common.{pos, negsuc}
use Rattle.std.specs.List.{AllByRecursion}
use Rattle.mi_schema.specs.Laws.{IsWithin}
use Rattle.mi_model.specs.World.{World}
use Rattle.mi_model.specs.RegistryGuards.{kept_key}
use Rattle.mi_records.specs.Choices.{IsAsked}
use Rattle.mi_records.proofs.NamedLemmas.{Picking}
use Rattle.mi_records.proofs.named.kept_keys.Given as goal

abbrev pub invariant-loop-row : goal.invariant-loop-row
invariant-loop-row g l = record {
  picking : (w : World) → IsAsked (g.S.Env.lookups l.seen) (g.S.Sees.choices l.seen) (g.S.Sees.rows l.seen) w → Picking w (kept_key w) l.keys.items l.row-iterator;
  roots : AllByRecursion (λ r. IsWithin (negsuc 0) (pos 3) r.root) l.row-iterator;
}
