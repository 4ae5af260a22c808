-- A null column is no text.
use Rattle.std.proofs.Common.{List, ℕ, Option, Some, sym, ap, subst, ◌∙◌}
use Rattle.std.specs.Prelude.{Ok}
use Rattle.mi_model.specs.Refusals.{expanded_or_empty}
use Rattle.mi_records.specs.Stops.{Tells}
use Rattle.mi_row_steps.proofs.texts.expanded_or_empty.Goals as goal

pub returns-in-Some : goal.returns-in-Some
returns-in-Some g c =
    let L = g.E.Env.lookups c.args.env.now in
    subst (λ (o : Option (List ℕ)). Tells (expanded_or_empty L c.args.table.now c.args.number o) c.expanded.result) (sym (c.in-Some.is ∙ ap Some (sym c.as_str.ensures))) c.expanded.ensures

pub returns-in-None : goal.returns-in-None
returns-in-None g c =
    let L = g.E.Env.lookups c.args.env.now in
    ap (expanded_or_empty L c.args.table.now c.args.number) c.in-None.is ∙ ap Ok (sym c.new.ensures)
