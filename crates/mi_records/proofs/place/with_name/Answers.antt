use Rattle.std.proofs.Common.{List, ℕ}
use Rattle.mi_model.specs.RegistryRows.{RegistryPlace}
use Rattle.mi_records.specs.Columns.{name_of, named_at}
use Rattle.mi_records.proofs.MeaningLemmas.{refused_as}
use Rattle.mi_records.proofs.TextLemmas.{bound_ok, bound_err, naming}
use Rattle.mi_records.proofs.place.with_name.Goals as goal

pub returns-in-Ok : goal.returns-in-Ok
returns-in-Ok g c = λ table row. bound_ok (naming c.args.root c.args.key) (name_of (g.E.Env.lookups c.args.env.now) table row c.args.name.now) c.in-Ok.name (c.in-Ok.ensures.value table row)

pub returns-in-Err : goal.returns-in-Err
returns-in-Err g c = λ table row.
    let name = name_of (g.E.Env.lookups c.args.env.now) table row c.args.name.now in
    refused_as (λ (t : List ℕ). t) (λ (p : RegistryPlace). p) table row name (named_at c.args.root c.args.key name) c.in-Err.stop (bound_err (naming c.args.root c.args.key) name) (c.in-Err.ensures.value table row)
