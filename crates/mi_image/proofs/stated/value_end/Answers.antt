use Rattle.std.proofs.Common.{◌≡◌, ℕ, Option, IfOk, sym, ap, subst, ◌∙◌}
use Rattle.std.specs.Prelude.{option_and_then}
use Rattle.mi_image.specs.Stated.{payload_end, value_end}
use Rattle.mi_image.proofs.stated.value_end.Goals as goal

pub returns-in_default-clause-value : goal.returns-in_default-clause-value
unfolding value_end
returns-in_default-clause-value g c = λ told whole shows.
    let first = c.in_ok-shown.ensures.value told whole shows in
    sym (ap (option_and_then (λ shown. payload_end whole shown)) (sym first ∙ c.in_default.is))

pub returns-clause-value : goal.returns-clause-value
unfolding value_end
returns-clause-value g c = λ told whole shows.
    let first = c.in_ok-shown.ensures.value told whole shows in
    let now = c.in_ok-shown.ensures.shows told whole shows in
    let is : value_end whole ≡ payload_end whole c.in-Some.shown = ap (option_and_then (λ shown. payload_end whole shown)) (sym first ∙ c.in-Some.is) in
    subst (λ (e : Option ℕ). IfOk c.payload_end.result (λ end. end ≡ e)) (sym is) (c.payload_end.ensures.value told whole now)
