use Rattle.std.proofs.Common.{◌≡◌, ◌≤◌, ◌-◌, length, map}
use Rattle.std.specs.Prelude.{filter}
use Rattle.std.specs.FinMap.{entries}
use Rattle.mi_image.specs.Fronts.{begins_within}
use Rattle.mi_image.proofs.image.Image.under_key.Given as goal

abbrev pub invariant-loop-found : goal.invariant-loop-found
invariant-loop-found l =
    record {
      found : map (λ i. i.now) l.found.items ≡ map (λ e. e.1) (filter (λ e. begins_within l.root l.key l.front (l.last - length l.key) e.0) (entries l.self));
      low : length l.key ≤ l.last;
      high : l.last ≤ 500;
    }

abbrev pub decreases-loop-found : goal.decreases-loop-found
decreases-loop-found l = 500 - l.last
