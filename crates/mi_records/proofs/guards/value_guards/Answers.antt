-- The set has what the list has.
use Rattle.std.proofs.Common.{◌≡◌, List, ap, ◌∙◌}
use Rattle.std.specs.List.{list_any}
use Rattle.indexmap.proofs.CallerLemmas.{Drains-YieldsInOrder}
use Rattle.mi_text.specs.Maps.{Name, same_name}
use Rattle.mi_records.proofs.GuardLemmas.{among_named}
use Rattle.mi_records.proofs.guards.value_guards.Goals as goal

pub returns : goal.returns
returns g c = λ w asked name.
    let ran = c.in_ok-set.ensures.ran in
    let end = ran.3.2 tt in
    let all : ran.1 ≡ c.in_ok-names.names.items = Drains-YieldsInOrder _ _ ran.0 ran.1 ran.2.3 (end.0, (ran.3.0, ran.3.1, end.1)) ∙ ran.2.0 in
    ran.4.0 name ∙ ap (λ (names : List Name). list_any (same_name name) names) (all ∙ c.in_ok-names.ensures w asked) ∙ among_named w name
