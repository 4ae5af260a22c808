use Rattle.std.proofs.Common.{◌≡◌, ℕ, Option, Some, None, IfOk, sym, ap, subst, ◌∙◌}
use Rattle.std.specs.Prelude.{option_and_then}
use Rattle.mi_image.specs.Stated.{texts_end, list_end}
use Rattle.mi_image.proofs.WindowLemmas.{list_end_is}
use Rattle.mi_image.proofs.stated.list_end.Goals as goal

pub returns-in_default-clause-value : goal.returns-in_default-clause-value
returns-in_default-clause-value g c = λ told whole shows.
    let now = c.in_ok-turn.ensures.shows told whole shows in
    sym (list_end_is whole c.front.result.now c.args.at c.turn.new.window.size None (c.front.ensures ∙ c.in_ok-turn.ensures.front told whole shows) now.long (sym c.in_default.is ∙ c.u16_of.ensures))

pub returns-in_default-further-clause-value : goal.returns-in_default-further-clause-value
returns-in_default-further-clause-value g c = λ told whole shows.
    let now = c.in_ok-turn.ensures.shows told whole shows in
    sym (list_end_is whole c.front.result.now c.args.at c.turn.new.window.size (Some c.in-Some.count) (c.front.ensures ∙ c.in_ok-turn.ensures.front told whole shows) now.long (sym c.in-Some.is ∙ c.u16_of.ensures)
    ∙ ap (option_and_then (λ first. texts_end whole first c.in-Some.count)) (sym c.further.ensures ∙ c.in_default-further.is))

pub returns-clause-value : goal.returns-clause-value
returns-clause-value g c = λ told whole shows.
    let now = c.in_ok-turn.ensures.shows told whole shows in
    let is : list_end whole c.args.at ≡ texts_end whole c.in-Some-further.first c.in-Some.count =
    list_end_is whole c.front.result.now c.args.at c.turn.new.window.size (Some c.in-Some.count) (c.front.ensures ∙ c.in_ok-turn.ensures.front told whole shows) now.long (sym c.in-Some.is ∙ c.u16_of.ensures)
    ∙ ap (option_and_then (λ first. texts_end whole first c.in-Some.count)) (sym c.further.ensures ∙ c.in-Some-further.is) in
    subst (λ (e : Option ℕ). IfOk c.texts_end.result (λ end. end ≡ e)) (sym is) (c.texts_end.ensures.value told whole now)
