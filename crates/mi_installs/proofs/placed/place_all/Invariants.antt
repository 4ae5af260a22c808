use Rattle.std.proofs.Common.{◌≡◌, map, take}
use Rattle.std.specs.Prelude.{All, Ok}
use Rattle.mi_model.specs.World.{World}
use Rattle.mi_model.specs.InstallFiles.{placed}
use Rattle.mi_model.specs.Refusals.{each}
use Rattle.mi_records.specs.Choices.{IsAsked}
use Rattle.mi_records.specs.Order.{as_numbered}
use Rattle.mi_installs.specs.Placings.{as_placed, HasFilePath, HasLanguages}
use Rattle.mi_installs.proofs.placed.place_all.Given as goal

abbrev pub invariant-loop-row : goal.invariant-loop-row
invariant-loop-row g l = record {
  each : (w : World) → IsAsked (g.E.Env.lookups l.seen) (g.E.Sees.choices l.seen) (g.E.Sees.rows l.seen) w → each (placed w) (map as_numbered (take l.row-index l.rows)) ≡ Ok (map as_placed l.placed.items);
  files : All HasFilePath l.placed.items;
  languages : All HasLanguages l.placed.items;
}
