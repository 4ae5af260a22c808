-- Some items are there.
use Rattle.std.proofs.Common.{ℕ, List, map, Bor, sym, ap, ◌∙◌}
use Rattle.std.specs.Prelude.{◌==◌}
use Rattle.std.proofs.lemmas.List.{length-map}
use Rattle.mi_variables.proofs.ItemLemmas.{joined_items, some_left}
use Rattle.mi_variables.proofs.items.joined.Goals as goal

pub returns : goal.returns
returns c =
    let items = c.args.items.now in
    some_left (map (λ (i : Bor (List ℕ)). i.now) items) c.in_ok-joined.joined (ap (λ n. n == 0) (length-map items (λ (i : Bor (List ℕ)). i.now)) ∙ sym c.is_empty.ensures ∙ c.if-is_empty.false) (c.in_ok-joined.ensures ∙ c.in_ok-text.ensures.ok ∙ joined_items items)
