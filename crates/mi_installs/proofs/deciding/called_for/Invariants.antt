use Rattle.std.proofs.Common.{◌≡◌, Some, map, take, length}
use Rattle.std.specs.Prelude.{All}
use Rattle.mi_model.specs.World.{World}
use Rattle.mi_model.specs.FilePaths.{path_of_row}
use Rattle.mi_model.specs.FileVersions.{is_called_for}
use Rattle.mi_installs.specs.declared.placed.Placed.{Placed}
use Rattle.mi_installs.specs.Deciding.{IsSeenOver}
use Rattle.mi_installs.specs.Reading.{Reads}
use Rattle.mi_installs.proofs.deciding.called_for.Given as goal

abbrev pub invariant-loop-placed : goal.invariant-loop-placed
invariant-loop-placed g l =
    let state = g.V.Volume.state in
    let files = g.S.Source.files in
    record {
      called : (w : World) → IsSeenOver (g.E.Env.lookups l.seen) (g.E.Sees.choices l.seen) (g.E.Sees.rows l.seen) (state l.initial.vol).held (files l.initial.src) l.image w → g.V.Volume.told → g.S.Source.told
          → All (λ (p : Placed). path_of_row w p.row.now ≡ Some p.path) l.rows → l.called.items ≡ take l.placed-index (map (λ (p : Placed). is_called_for w p.row.now) l.rows);
      size : length l.called.items ≡ l.placed-index;
      reads : Reads g.V.Volume.told (state l.initial.vol) (state l.vol) (files l.initial.src) (files l.src) (g.S.Source.faults l.initial.src) (g.S.Source.faults l.src);
    }
