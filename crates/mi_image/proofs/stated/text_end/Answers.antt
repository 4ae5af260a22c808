use Rattle.std.proofs.Common.{sym, ◌∙◌, ap, ◌+◌, ℕ, Some, None}
use Rattle.mi_image.specs.Stated.{further}
use Rattle.mi_image.proofs.WindowLemmas.{text_end_is}
use Rattle.mi_image.proofs.stated.text_end.Goals as goal

pub returns-in-Some-clause-value : goal.returns-in-Some-clause-value
returns-in-Some-clause-value g c = λ told whole shows.
    let now = c.in_ok-turn.ensures.shows told whole shows in
    let is = text_end_is whole c.front.result.now c.args.at c.turn.new.window.size (Some c.in-Some.length) (c.front.ensures ∙ c.in_ok-turn.ensures.front told whole shows) now.long c.in-Some.ensures in
    c.further.ensures ∙ ap (λ (n : ℕ). further c.turn.new.window.size c.args.at (4 + n)) c.from.ensures ∙ sym is

pub returns-in-None-clause-value : goal.returns-in-None-clause-value
returns-in-None-clause-value g c = λ told whole shows.
    let now = c.in_ok-turn.ensures.shows told whole shows in
    sym (text_end_is whole c.front.result.now c.args.at c.turn.new.window.size None (c.front.ensures ∙ c.in_ok-turn.ensures.front told whole shows) now.long c.in-None.ensures)
