use Rattle.std.proofs.Common.{codes}
use Rattle.mi_model.specs.RegistryRows.{RegistryPlace, registry_place, registry_meaning}
use Rattle.mi_records.specs.Meaning.{numbered, whole}
use Rattle.mi_records.proofs.MeaningLemmas.{refused_as, names_nothing}
use Rattle.mi_records.proofs.meaning.meaning_of.Goals as goal

pub returns-in-Err : goal.returns-in-Err
returns-in-Err g c = λ number.
    let L = g.E.Env.lookups c.args.env.now in
    refused_as (λ (p : RegistryPlace). p) whole (codes "Registry") number (registry_place L (numbered number c.args.row.now)) (registry_meaning L (numbered number c.args.row.now)) c.in-Err.stop
    (names_nothing L (numbered number c.args.row.now)) (c.in-Err.ensures number)
