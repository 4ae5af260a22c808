-- The row at the place, if there is one and it holds.
use Rattle.std.proofs.Common.{ap, ◌∙◌}
use Rattle.mi_seq_rows.specs.Conditions.{holding}
use Rattle.mi_seq.proofs.row.row_that_holds.Goals as goal

pub returns-in-Some : goal.returns-in-Some
returns-in-Some g c = c.if_holds.ensures ∙ ap (holding (g.E.Env.lookups c.args.env.now)) c.in-Some.ensures

pub returns-in-None : goal.returns-in-None
returns-in-None g c = ap (holding (g.E.Env.lookups c.args.env.now)) c.in-None.ensures
