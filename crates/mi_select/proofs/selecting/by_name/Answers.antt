-- What is inserted in turn is all of it.
use Rattle.std.proofs.Common.{◌≡◌, [], ap, ◌∙◌}
use Rattle.std.specs.String.{string_eq}
use Rattle.indexmap.specs.IndexMap.{insert_all}
use Rattle.indexmap.proofs.CallerLemmas.{Drains-YieldsInOrder}
use Rattle.mi_select.proofs.OrderLemmas.{inserted_all}
use Rattle.mi_select.proofs.selecting.by_name.Goals as goal

pub returns-clause-entries : goal.returns-clause-entries
returns-clause-entries g c = λ rise.
    let ran = c.in_ok-map.ensures.ran in
    let end = ran.3.2 tt in
    let all : ran.1 ≡ c.args.named.items = Drains-YieldsInOrder _ _ ran.0 ran.1 ran.2.3 (end.0, (ran.3.0, ran.3.1, end.1)) ∙ ran.2.0 in
    ran.4.0 ∙ ap (insert_all string_eq []) all ∙ inserted_all c.args.named.items rise
