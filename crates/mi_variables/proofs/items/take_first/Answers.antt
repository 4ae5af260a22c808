-- By the place of the part.
use Rattle.std.proofs.Common.{ℕ, List, map, Bor, length, rules, tests, sym, ap, ◌∙◌}
use Rattle.std.specs.List.{position_or_len, remove}
use Rattle.std.proofs.lemmas.Iterator.{YieldsList-from_slice}
use Rattle.std.proofs.lemmas.Iterator.Search.{position_from_yields_List}
use Rattle.mi_variables.proofs.ItemLemmas.{is_part, taken_at, not_taken, some_place, no_place}
use Rattle.mi_variables.proofs.items.take_first.Goals as goal

pub returns-in-Some : goal.returns-in-Some
returns-in-Some c =
    let items = c.args.items.now.items in
    let part = c.args.part.now in
    let found = position_from_yields_List (is_part part) _ _ c.position.result c.position.ensures.ran (YieldsList-from_slice items (c.iter.ensures.rest ∙ c.deref.ensures.value)) (λ x b q k. search (rules, tests)) in
    let at = some_place (position_or_len (is_part part) items) (length items) c.in-Some.place (sym c.in-Some.is ∙ found) in
    ap (map (λ (i : Bor (List ℕ)). i.now)) (c.remove.ensures.items ∙ ap (remove items) at.1) ∙ taken_at part items at.0

pub returns-in_default : goal.returns-in_default
returns-in_default c =
    let items = c.args.items.now.items in
    let part = c.args.part.now in
    let found = position_from_yields_List (is_part part) _ _ c.position.result c.position.ensures.ran (YieldsList-from_slice items (c.iter.ensures.rest ∙ c.deref.ensures.value)) (λ x b q k. search (rules, tests)) in
    not_taken part items (no_place (position_or_len (is_part part) items) (length items) (sym c.in_default.is ∙ found))
