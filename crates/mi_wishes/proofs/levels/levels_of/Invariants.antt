use Rattle.std.proofs.Common.{◌≡◌}
use Rattle.mi_text.specs.Maps.{Name}
use Rattle.mi_schema.specs.RowsOf.{rows_in}
use Rattle.mi_wishes.specs.Levels.{greatest, levels_in, level_at}
use Rattle.mi_wishes.proofs.LevelLemmas.{raise_all}
use Rattle.mi_wishes.proofs.levels.levels_of.Given as goal

abbrev pub invariant-loop-row : goal.invariant-loop-row
invariant-loop-row g l = (q : Name) → raise_all (level_at l.levels q) (levels_in (g.E.Env.lookups l.env) q l.row-iterator) ≡ greatest (levels_in (g.E.Env.lookups l.env) q (rows_in l.loaded).condition)
