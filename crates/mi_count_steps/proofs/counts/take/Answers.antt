use Rattle.std.proofs.Common.{[], ◌∷◌, None, cond, subst}
use Rattle.std.specs.Prelude.{OnOk}
use Rattle.mi_text.specs.Maps.{Name}
use Rattle.mi_changes.specs.Touches.{Set}
use Rattle.mi_steps.specs.Makes.{Makes}
use Rattle.mi_count_steps.proofs.counts.take.Goals as goal

pub returns-in-Ok-clause-makes : goal.returns-in-Ok-clause-makes
returns-in-Ok-clause-makes c = λ guarded held files guards.
    subst (λ (q : Name). OnOk c.take_at.result (Makes held files c.args.plan.now c.take_at.new.plan (cond (guarded q) [] (Set q (λ old. None) ∷ [])))) c.in-Ok.ensures (c.take_at.ensures.makes guarded held files guards)
