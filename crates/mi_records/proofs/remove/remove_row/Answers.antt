-- What the row means is carried out.
use Rattle.std.proofs.Common.{codes}
use Rattle.std.specs.FinMap.{keys}
use Rattle.mi_model.specs.CountRows.{is_guarded}
use Rattle.mi_model.specs.RegistryRows.{registry_meaning}
use Rattle.mi_model.specs.RemoveRegistryValues.{remove_row, removed_touches}
use Rattle.mi_steps.specs.Makes.{plan_machine}
use Rattle.mi_records.specs.Meaning.{numbered, whole}
use Rattle.mi_records.proofs.RemoveLemmas.{row_removes, row_removes_nothing, only_made}
use Rattle.mi_records.proofs.WriteLemmas.{row_refused_by}
use Rattle.mi_records.proofs.remove.remove_row.Goals as goal

pub returns-in-Ok-clause-row : goal.returns-in-Ok-clause-row
returns-in-Ok-clause-row g c = λ held files w number same guards clear.
    let r = numbered number c.args.row.now in
    let m = plan_machine held files c.args.plan.now in
    let touches = removed_touches (is_guarded w) (whole c.in-Ok.meaning) (keys m) in
    only_made held files c.args.plan.now c.remove_whole-done.new.plan (codes "Registry") number (remove_row w r) touches c.remove_whole-done.result
    (row_removes w (g.E.Env.lookups c.args.env.now) r m same (whole c.in-Ok.meaning) (c.in-Ok.ensures number)) (c.remove_whole-done.ensures.makes (is_guarded w) held files guards clear)

pub returns-in-Err-clause-row : goal.returns-in-Err-clause-row
returns-in-Err-clause-row g c = λ held files w number same guards clear.
    let L = g.E.Env.lookups c.args.env.now in
    let r = numbered number c.args.row.now in
    row_refused_by held files c.args.plan.now c.args.plan.now (Unit {0}) whole (codes "Registry") number (registry_meaning L r) (remove_row w r) c.in-Err.stop
    (row_removes_nothing w L r (plan_machine held files c.args.plan.now) same) (c.in-Err.ensures number)
