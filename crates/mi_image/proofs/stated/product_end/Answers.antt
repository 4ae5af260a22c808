use Rattle.std.proofs.Common.{◌≡◌, ℕ, Option, Some, None, IfOk, sym, ap, subst, ◌∙◌}
use Rattle.std.specs.Prelude.{option_and_then}
use Rattle.mi_image.specs.Stated.{list_end, product_end}
use Rattle.mi_image.proofs.WindowLemmas.{product_end_is}
use Rattle.mi_image.proofs.stated.product_end.Goals as goal

pub returns-in_default-clause-value : goal.returns-in_default-clause-value
returns-in_default-clause-value g c = λ told whole shows.
    let now = c.in_ok-shown.ensures.shows told whole shows in
    sym (product_end_is whole c.text_end.new.window.size None now.long (sym c.in_default.is ∙ c.in_ok-shown.ensures.value told whole shows))

pub returns-in_default-further-clause-value : goal.returns-in_default-further-clause-value
returns-in_default-further-clause-value g c = λ told whole shows.
    let now = c.in_ok-shown.ensures.shows told whole shows in
    sym (product_end_is whole c.text_end.new.window.size (Some c.in-Some.shown) now.long (sym c.in-Some.is ∙ c.in_ok-shown.ensures.value told whole shows)
    ∙ ap (option_and_then (λ language. list_end whole language)) (sym c.further.ensures ∙ c.in_default-further.is))

pub returns-clause-value : goal.returns-clause-value
returns-clause-value g c = λ told whole shows.
    let now = c.in_ok-shown.ensures.shows told whole shows in
    let is : product_end whole ≡ list_end whole c.in-Some-further.language =
    product_end_is whole c.text_end.new.window.size (Some c.in-Some.shown) now.long (sym c.in-Some.is ∙ c.in_ok-shown.ensures.value told whole shows)
    ∙ ap (option_and_then (λ language. list_end whole language)) (sym c.further.ensures ∙ c.in-Some-further.is) in
    subst (λ (e : Option ℕ). IfOk c.list_end.result (λ end. end ≡ e)) (sym is) (c.list_end.ensures.value told whole now)
