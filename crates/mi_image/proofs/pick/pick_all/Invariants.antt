use Rattle.std.proofs.Common.{◌≡◌, map, take}
use Rattle.std.specs.List.{filter_map}
use Rattle.mi_image.proofs.pick.pick_all.Given as goal

abbrev pub invariant-loop-item : goal.invariant-loop-item
invariant-loop-item g l = l.picked.items ≡ filter_map (g.P.Pick.picks l.pick) (map (λ i. i.now) (take l.item-index l.items))
