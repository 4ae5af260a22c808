use Rattle.std.proofs.Common.{ℕ, List, length, take, drop, ap, ◌∙◌, arith}
use Rattle.mi_image.proofs.WindowLemmas.{seen_at, seen_first}
use Rattle.mi_image.proofs.stated.turn.Goals as goal

pub returns-then-at-window-clause-front : goal.returns-then-at-window-clause-front
returns-then-at-window-clause-front g c = λ told whole shows.
    seen_at whole c.args.window.now.bytes c.args.window.now.at c.args.at c.args.want shows.part c.if-window-at.true (omega arith) c.requires

pub returns-clause-front : goal.returns-clause-front
returns-clause-front g c = λ told whole shows.
    let now = c.in_ok-window.ensures.shows told (ap length shows.held ∙ shows.long) in
    seen_first whole c.in_ok-window.field-0.bytes c.in_ok-window.field-0.at c.args.at c.args.want (now.part ∙ ap (λ (b : List ℕ). take 65536 (drop c.in_ok-window.field-0.at b)) shows.held) c.in_ok-window.ensures.place c.requires
