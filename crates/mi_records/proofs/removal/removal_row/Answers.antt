-- What the row names is taken.
use Rattle.std.proofs.Common.{codes}
use Rattle.std.specs.FinMap.{keys}
use Rattle.mi_model.specs.RegistryRows.{RegistryPlace, removal_place}
use Rattle.mi_model.specs.RemoveRegistryValues.{removal_row, removal_touches}
use Rattle.mi_steps.specs.Makes.{plan_machine}
use Rattle.mi_records.specs.Meaning.{numbered}
use Rattle.mi_records.proofs.RemoveLemmas.{row_takes, row_takes_nothing, only_made}
use Rattle.mi_records.proofs.WriteLemmas.{row_refused_by}
use Rattle.mi_records.proofs.removal.removal_row.Goals as goal

pub returns-in-Ok-clause-row : goal.returns-in-Ok-clause-row
returns-in-Ok-clause-row g c = λ held files w number same clear.
    let r = numbered number c.args.row.now in
    let m = plan_machine held files c.args.plan.now in
    only_made held files c.args.plan.now c.remove_whole-done.new.plan (codes "RemoveRegistry") number (removal_row w r) (removal_touches c.in-Ok.place (keys m)) c.remove_whole-done.result
    (row_takes w (g.E.Env.lookups c.args.env.now) r m same c.in-Ok.place (c.in-Ok.ensures number)) (c.remove_whole-done.ensures.makes held files clear)

pub returns-in-Err-clause-row : goal.returns-in-Err-clause-row
returns-in-Err-clause-row g c = λ held files w number same clear.
    let L = g.E.Env.lookups c.args.env.now in
    let r = numbered number c.args.row.now in
    row_refused_by held files c.args.plan.now c.args.plan.now (Unit {0}) (λ (p : RegistryPlace). p) (codes "RemoveRegistry") number (removal_place L r) (removal_row w r) c.in-Err.stop
    (row_takes_nothing w L r (plan_machine held files c.args.plan.now) same) (c.in-Err.ensures number)
