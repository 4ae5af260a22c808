use Rattle.std.proofs.Common.{◌≡◌, length}
use Rattle.mi_image.specs.Overlays.{former_items}
use Rattle.mi_model.specs.World.{Given}
use Rattle.mi_seq.specs.Walks.{rest}
use Rattle.mi_plan.specs.Devices.{Asks}
use Rattle.mi_plan.specs.Lengths.{HaveLengths}
use Rattle.mi_plan.specs.Stages.{IsReady}
use Rattle.mi_plan.specs.Turns.{IsSoFar}
use Rattle.mi_plan.specs.declared.turn.Turn.TheVariants.{Went}
use Rattle.mi_plan.proofs.planning.walk_on.Given as goal

abbrev pub invariant-rows : goal.invariant-rows
invariant-rows g l =
    let held = (g.V.Volume.state l.initial.vol).held in
    let files = g.S.Source.files l.initial.src in
    record {
      ready : IsReady l.work l.path;
      so_far : (x : Given) → g.V.Volume.told → g.S.Source.told → l.folder ≡ x.folder → IsSoFar held files x l.initial.work l.initial.path → IsSoFar held files x l.work l.path;
      lengths : g.S.Source.told → HaveLengths files l.initial.work Went → HaveLengths files l.work Went;
      former : former_items l.work.world.plan.overlay ≡ former_items l.initial.work.world.plan.overlay;
      asks : Asks g.V.Volume.told (g.V.Volume.state l.initial.vol) (g.V.Volume.state l.vol) files (g.S.Source.files l.src) (g.S.Source.faults l.initial.src) (g.S.Source.faults l.src);
    }

abbrev pub decreases-rows : goal.decreases-rows
decreases-rows g l = length (rest l.work.world.seen.loaded l.path)
