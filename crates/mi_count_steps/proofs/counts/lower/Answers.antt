use Rattle.std.proofs.Common.{[], ◌∷◌, ap, subst, ◌∙◌}
use Rattle.std.specs.Prelude.{OnOk}
use Rattle.mi_text.specs.Maps.{Name}
use Rattle.mi_changes.specs.Touches.{Set}
use Rattle.mi_script.specs.Spelled.{is_file_name}
use Rattle.mi_model.specs.SharedCounts.{lowered}
use Rattle.mi_steps.specs.Makes.{Makes}
use Rattle.mi_count_steps.proofs.CountLemmas.{count_plain}
use Rattle.mi_count_steps.proofs.counts.lower.Goals as goal

pub lower_at-requires : goal.lower_at-requires
lower_at-requires c = ap is_file_name c.in-Ok.ensures ∙ count_plain c.args.path.now

pub returns-in-Ok-clause-makes : goal.returns-in-Ok-clause-makes
returns-in-Ok-clause-makes c = λ held files.
    subst (λ (q : Name). OnOk c.lower_at.result (Makes held files c.args.plan.now c.lower_at.new.plan (Set q lowered ∷ []))) c.in-Ok.ensures (c.lower_at.ensures.makes held files)
