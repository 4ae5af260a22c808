-- What the row means is carried out.
use Rattle.std.proofs.Common.{codes}
use Rattle.mi_model.specs.RegistryRows.{registry_meaning}
use Rattle.mi_model.specs.WriteRegistryValues.{write_row}
use Rattle.mi_steps.specs.Makes.{plan_machine}
use Rattle.mi_records.specs.Meaning.{meant, numbered, whole}
use Rattle.mi_records.proofs.WriteLemmas.{effect_of, row_as, row_refused_by, row_means, row_means_nothing}
use Rattle.mi_records.proofs.write.write_row.Goals as goal

pub returns-in-Ok-clause-row : goal.returns-in-Ok-clause-row
returns-in-Ok-clause-row g c = λ held files w number same.
    let r = numbered number c.args.row.now in
    let m = plan_machine held files c.args.plan.now in
    row_as held files c.args.plan.now c.write_meaning-done.new.plan (codes "Registry") number (effect_of c.in-Ok.meaning.place (meant c.in-Ok.meaning.says) number) (write_row w r) c.write_meaning-done.result
    (row_means w (g.E.Env.lookups c.args.env.now) r (whole c.in-Ok.meaning) m same (c.in-Ok.ensures number)) (c.write_meaning-done.ensures.row held files number)

pub returns-in-Err-clause-row : goal.returns-in-Err-clause-row
returns-in-Err-clause-row g c = λ held files w number same.
    let L = g.E.Env.lookups c.args.env.now in
    let r = numbered number c.args.row.now in
    row_refused_by held files c.args.plan.now c.args.plan.now (Unit {0}) whole (codes "Registry") number (registry_meaning L r) (write_row w r) c.in-Err.stop
    (row_means_nothing w L r (plan_machine held files c.args.plan.now) same) (c.in-Err.ensures number)
