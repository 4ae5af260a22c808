-- The row at the place, by its key.
use Rattle.std.proofs.Common.{◌+◌, List, ℕ, option_map, sym, ap, ◌∙◌}
use Rattle.mi_seq.specs.Launches.{Condition, found_as}
use Rattle.mi_seq.proofs.LaunchLemmas.{found_with, found_without}
use Rattle.mi_seq.proofs.launch.with_row.Goals as goal

pub returns-in-Some : goal.returns-in-Some
returns-in-Some g c = λ are.
    let key : List ℕ = c.in-Some.key.now in
    let this : Condition = record { number = c.args.place + 1; row = (key, c.in-Some.row.now) } in
    c.first_of.ensures
    ∙ found_with (g.E.Env.lookups c.args.env.now) c.args.loaded.now.launch_condition.entries c.args.place (key, c.in-Some.row.now) _ (option_map found_as c.args.found) (sym c.in-Some.ensures.entry)
    (ap (λ (k : List ℕ). let same : Condition = record { number = c.args.place + 1; row = (k, c.in-Some.row.now) } in same) c.as_str-key.ensures) are
