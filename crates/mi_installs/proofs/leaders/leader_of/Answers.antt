use Rattle.std.proofs.Common.{sym, ap, ◌∙◌, option_map, option_and_then}
use Rattle.mi_schema.specs.RowsOf.{rows_in}
use Rattle.mi_installs.specs.Leads.{place_of}
use Rattle.mi_installs.proofs.leaders.leader_of.Goals as goal

pub returns-in-Some : goal.returns-in-Some
returns-in-Some c =
    c.place_of.ensures.place ∙ ap (option_and_then (place_of (rows_in c.args.loaded.now).file)) (ap (option_map (λ key. key.now)) (sym c.in-Some.is) ∙ c.companion_of.ensures)

pub returns-in-None : goal.returns-in-None
returns-in-None c = ap (option_and_then (place_of (rows_in c.args.loaded.now).file)) (ap (option_map (λ key. key.now)) (sym c.in-None.is) ∙ c.companion_of.ensures)
