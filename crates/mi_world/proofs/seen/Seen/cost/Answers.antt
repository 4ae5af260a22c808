use Rattle.std.proofs.Common.{refl, subst, Ok, Err}
use Rattle.std.proofs.lemmas.Result.{err_from_is_err_and}
use Rattle.mi_props.specs.Props.{Values}
use Rattle.mi_model.specs.Properties.{resolved}
use Rattle.mi_world.specs.Costs.{Places}
use Rattle.mi_world.proofs.CostLemmas.{knows_placed, becomes_unplaced, becomes_unchosen, becomes_costed}
use Rattle.mi_world.proofs.seen.Seen.cost.Goals as goal

pub returns-in_ok-choose-in-Ok-clause-ok : goal.returns-in_ok-choose-in-Ok-clause-ok
returns-in_ok-choose-in-Ok-clause-ok c =
    let chosen = c.in_ok-choose-in-Ok.ensures.ok c.in-Ok.placed.dirs refl in
    record { placed = c.in-Ok.placed; choice = chosen.0; is = chosen.1; files = c.in-Ok.ensures.files; keys = c.in-Ok.ensures.keys }

pub returns-in_ok-choose-in-Ok-clause-cost : goal.returns-in_ok-choose-in-Ok-clause-cost
returns-in_ok-choose-in-Ok-clause-cost c = λ held files g plan is former at.
    let placed = c.in-Ok.placed in
    let found = subst (λ (v : Values). Places (Ok placed) (resolved g v)) c.props.ensures (c.in-Ok.ensures.dirs held files g is.knows.rows former at) in
    let knows = knows_placed g c.args.self.now placed is.knows c.in-Ok.ensures.files c.in-Ok.ensures.keys in
    let chosen = c.in_ok-choose-in-Ok.ensures.ok placed.dirs refl in
    becomes_costed held files g c.args.self.now plan placed chosen.0 c.choose.new.self is.knows.rows found chosen.1 (c.in_ok-choose-in-Ok.ensures.selected held files g placed.dirs knows c.requires.first refl former)

pub returns-in_err-choose-in-Ok-clause-cost : goal.returns-in_err-choose-in-Ok-clause-cost
returns-in_err-choose-in-Ok-clause-cost c = λ held files g plan is former at.
    let placed = c.in-Ok.placed in
    let p = err_from_is_err_and c.from_residual.result c.from_residual.ensures.1 in
    let found = subst (λ (v : Values). Places (Ok placed) (resolved g v)) c.props.ensures (c.in-Ok.ensures.dirs held files g is.knows.rows former at) in
    let knows = knows_placed g c.args.self.now placed is.knows c.in-Ok.ensures.files c.in-Ok.ensures.keys in
    rw (p.1, p.2) (becomes_unchosen held files g c.args.self.now plan (Unit {0}) c.in_err-choose-in-Ok.field-0.0 placed.dirs c.choose.new.self.selection _ found (c.in_err-choose-in-Ok.ensures.selected held files g placed.dirs knows c.requires.first refl former))

pub returns-in-Err-clause-cost : goal.returns-in-Err-clause-cost
returns-in-Err-clause-cost c = λ held files g plan is former at.
    becomes_unplaced held files g c.args.self.now plan (Unit {0}) c.in-Err.error _ (subst (λ (v : Values). Places (Err c.in-Err.error) (resolved g v)) c.props.ensures (c.in-Err.ensures.dirs held files g is.knows.rows former at))
