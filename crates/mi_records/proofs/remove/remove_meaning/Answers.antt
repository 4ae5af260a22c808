-- By what the row says.
use Rattle.std.proofs.Common.{ap, sym, subst, ◌∙◌}
use Rattle.std.specs.Prelude.{OnOk}
use Rattle.std.specs.FinMap.{keys}
use Rattle.mi_model.specs.RemoveRegistryValues.{taken_at}
use Rattle.mi_model.specs.RegistryRows as model
use Rattle.mi_steps.specs.Makes.{Makes, plan_machine}
use Rattle.mi_steps.proofs.FollowLemmas.{started}
use Rattle.mi_records.specs.declared.says.Says.{Says}
use Rattle.mi_records.specs.declared.says.Says.TheVariants.{Writes}
use Rattle.mi_records.specs.Meaning.{meant}
use Rattle.mi_records.proofs.KeyLemmas.{if_ok}
use Rattle.mi_records.proofs.CleanLemmas.{row_takes_only, still_clear}
use Rattle.mi_records.proofs.remove.remove_meaning.Goals as goal

pub returns-in-KeyAlone-clause-makes : goal.returns-in-KeyAlone-clause-makes
returns-in-KeyAlone-clause-makes c = λ guarded held files guards clear.
    let m = plan_machine held files c.args.plan.now in
    subst (λ (s : Says). Makes held files c.args.plan.now c.args.plan.now (taken_at guarded c.args.meaning.now.place (keys m) (meant s))) (sym c.in-KeyAlone.is) (started files m c.args.plan.now.script)

pub returns-in-Makes-clause-makes : goal.returns-in-Makes-clause-makes
returns-in-Makes-clause-makes c = λ guarded held files guards clear.
    let m = plan_machine held files c.args.plan.now in
    subst (λ (s : Says). Makes held files c.args.plan.now c.args.plan.now (taken_at guarded c.args.meaning.now.place (keys m) (meant s))) (sym c.in-Makes.is) (started files m c.args.plan.now.script)

pub returns-in-Removes-clause-makes : goal.returns-in-Removes-clause-makes
returns-in-Removes-clause-makes c = λ guarded held files guards clear.
    let m = plan_machine held files c.args.plan.now in
    subst (λ (s : Says). OnOk c.clear_once.result (Makes held files c.args.plan.now c.clear_once.new.plan (taken_at guarded c.args.meaning.now.place (keys m) (meant s)))) (sym c.in-Removes.is) (c.clear_once.ensures.makes guarded held files guards clear)

pub returns-in-MakesAndRemoves-clause-makes : goal.returns-in-MakesAndRemoves-clause-makes
returns-in-MakesAndRemoves-clause-makes c = λ guarded held files guards clear.
    let m = plan_machine held files c.args.plan.now in
    subst (λ (s : Says). OnOk c.clear_once-in-MakesAndRemoves.result (Makes held files c.args.plan.now c.clear_once-in-MakesAndRemoves.new.plan (taken_at guarded c.args.meaning.now.place (keys m) (meant s)))) (sym c.in-MakesAndRemoves.is) (c.clear_once-in-MakesAndRemoves.ensures.makes guarded held files guards clear)

pub returns-in-Writes-clause-makes : goal.returns-in-Writes-clause-makes
returns-in-Writes-clause-makes c = λ guarded held files guards clear.
    let m = plan_machine held files c.args.plan.now in
    subst (λ (s : Says). OnOk c.take_unguarded.result (Makes held files c.args.plan.now c.take_unguarded.new.plan (taken_at guarded c.args.meaning.now.place (keys m) (meant s)))) (sym (c.in-Writes.is ∙ ap Writes (sym c.as_str.ensures)))
    (c.take_unguarded.ensures.makes guarded held files guards)

pub returns-in-Writes-clause-clear : goal.returns-in-Writes-clause-clear
returns-in-Writes-clause-clear c = λ guarded held files guards clear.
    let m = plan_machine held files c.args.plan.now in
    let n = plan_machine held files c.take_unguarded.new.plan in
    if_ok c.take_unguarded.result (c.take_unguarded.ensures.makes guarded held files guards)
    (λ made. still_clear guarded m n (taken_at guarded c.args.meaning.now.place (keys m) (model.Writes c.as_str.result.now)) c.args.cleared.now (row_takes_only guarded c.args.meaning.now.place (keys m) (model.Writes c.as_str.result.now)) made.machine clear)
