use Rattle.std.proofs.Common.{◌≡◌, ◌++◌, [], ℕ, List, Bor, map, drop}
use Rattle.mi_volume.specs.State.{Passes}
use Rattle.mi_image.specs.Looks.{OnlyLooks}
use Rattle.mi_print_looks.specs.Machines.{machine_in}
use Rattle.mi_show.specs.Machines.{IsScanned, heads_tree, heads_of}
use Rattle.mi_show.proofs.files.push_tree.Given as goal

abbrev pub invariant-loop-name : goal.invariant-loop-name
invariant-loop-name g l =
    let state = g.V.Volume.state in
    let held = (state l.fn.vol).held in
    let now : Bor (List ℕ) → List ℕ = λ n. n.now in
    record {
      text : g.V.Volume.told → IsScanned held l.image
          → l.out.items ++ heads_tree (machine_in held l.image) l.former (heads_of l.image (map now (drop l.name-index l.names))) ≡ l.fn.out.items ++ heads_tree (machine_in held l.image) [] (heads_of l.image (map now l.names));
      looks : g.V.Volume.told → OnlyLooks (state l.fn.vol) (state l.vol);
      passes : Passes (state l.fn.vol) (state l.vol);
    }
