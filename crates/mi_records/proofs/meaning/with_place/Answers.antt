use Rattle.std.proofs.Common.{List, ℕ, codes, ap, sym, ◌∙◌}
use Rattle.mi_model.specs.Refusals.{expanded}
use Rattle.mi_model.specs.RegistryRows.{said, registry_meaning}
use Rattle.mi_records.specs.Meaning.{meant, numbered, whole}
use Rattle.mi_records.proofs.MeaningLemmas.{refused_as, means, says_nothing}
use Rattle.mi_records.proofs.meaning.with_place.Goals as goal

pub returns-in-Ok : goal.returns-in-Ok
returns-in-Ok g c = λ number named.
    let L = g.E.Env.lookups c.args.env.now in
    means L (numbered number c.args.row.now) c.args.place (meant c.in-Ok.says) named
    (ap (λ (n : List ℕ). said c.args.row.now.name n c.args.row.now.value (expanded L (codes "Registry") number)) (sym c.name.ensures.name) ∙ c.in-Ok.ensures (codes "Registry") number)

pub returns-in-Err : goal.returns-in-Err
returns-in-Err g c = λ number named.
    let L = g.E.Env.lookups c.args.env.now in
    refused_as meant whole (codes "Registry") number (said c.args.row.now.name c.name.result.now c.args.row.now.value (expanded L (codes "Registry") number)) (registry_meaning L (numbered number c.args.row.now)) c.in-Err.stop
    (λ f is. says_nothing L (numbered number c.args.row.now) c.args.place f named (ap (λ (n : List ℕ). said c.args.row.now.name n c.args.row.now.value (expanded L (codes "Registry") number)) (sym c.name.ensures.name) ∙ is))
    (c.in-Err.ensures (codes "Registry") number)
