use Rattle.std.proofs.Common.{ℕ, List, map, ap, ◌∙◌}
use Rattle.std.specs.Borrow.{Bor}
use Rattle.mi_text.specs.Maps.{Name, same_name}
use Rattle.mi_dirs.specs.Places.{first_row}
use Rattle.mi_dirs.proofs.RowLemmas.{first_row-map}
use Rattle.mi_dirs.proofs.index.folders_by_key.Goals as goal

pub returns : goal.returns
returns c = λ q.
    c.in_ok-index.ensures q
    ∙ ap (λ (ks : List (Bor (List ℕ))). first_row (same_name q) (map (λ k. k.now) ks)) c.deref.ensures.value
    ∙ ap (λ (ns : List Name). first_row (same_name q) ns) c.in_ok-keys.ensures
    ∙ first_row-map (same_name q) _ c.args.folders.now
