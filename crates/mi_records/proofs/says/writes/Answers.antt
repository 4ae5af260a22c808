use Rattle.std.proofs.Common.{List, ℕ}
use Rattle.mi_model.specs.Refusals.{expanded}
use Rattle.mi_model.specs.RegistryRows.{said}
use Rattle.std.specs.Prelude.{Some}
use Rattle.mi_records.specs.Meaning.{meant}
use Rattle.mi_records.proofs.MeaningLemmas.{refused_as, writes_err}
use Rattle.mi_records.proofs.says.writes.Goals as goal

pub returns-in-Err : goal.returns-in-Err
returns-in-Err g c = λ table name field row.
    let does = expanded (g.E.Env.lookups c.args.env.now) table row in
    refused_as (λ (t : List ℕ). t) meant table row (does c.args.value.now) (said field name (Some c.args.value.now) does) c.in-Err.stop (writes_err c.args.value.now field name does) (c.in-Err.ensures table row)
