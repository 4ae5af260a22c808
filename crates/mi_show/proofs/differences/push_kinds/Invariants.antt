use Rattle.std.proofs.Common.{◌≡◌, ◌++◌, drop}
use Rattle.std.specs.List.{flat_map}
use Rattle.mi_volume.specs.State.{Passes}
use Rattle.mi_image.specs.Looks.{OnlyLooks}
use Rattle.mi_print_looks.specs.Machines.{machine_in}
use Rattle.mi_show.specs.Machines.{IsScanned}
use Rattle.mi_show.specs.Differences.{differences, titled}
use Rattle.mi_show.proofs.differences.push_kinds.Given as goal

abbrev pub invariant-loop-kind : goal.invariant-loop-kind
invariant-loop-kind g l =
    let state = g.V.Volume.state in
    let state_other = g.W.Volume.state in
    let held = (state l.fn.vol).held in
    let held_other = (state_other l.fn.other).held in
    record {
      text : g.V.Volume.told → g.W.Volume.told → IsScanned held l.after → IsScanned held_other l.before
          → l.out.items ++ flat_map (λ k. titled k.title.now (differences k.front.now (machine_in held_other l.before) (machine_in held l.after))) (drop l.kind-index l.kinds)
          ≡ l.fn.out.items ++ flat_map (λ k. titled k.title.now (differences k.front.now (machine_in held_other l.before) (machine_in held l.after))) l.kinds;
      looks : g.V.Volume.told → OnlyLooks (state l.fn.vol) (state l.vol);
      passes : Passes (state l.fn.vol) (state l.vol);
      looks_other : g.W.Volume.told → OnlyLooks (state_other l.fn.other) (state_other l.other);
      passes_other : Passes (state_other l.fn.other) (state_other l.other);
    }
