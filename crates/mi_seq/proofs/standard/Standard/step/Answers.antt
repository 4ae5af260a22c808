-- An action without effect is begun anywhere.
use Rattle.std.proofs.Common.{sym, subst}
use Rattle.mi_seq.specs.declared.standard.Standard.{Standard}
use Rattle.mi_seq.specs.Standards.{does}
use Rattle.mi_seq.specs.Stops.{Answers}
use Rattle.mi_seq.proofs.standard.Standard.step.Goals as goal

pub returns-in-Plain : goal.returns-in-Plain
returns-in-Plain c = λ begun r. subst (λ (s : Standard). Answers (does s begun c.args.action.now) c.args.action.now c.plain.result) (sym c.in-Plain.is) (c.plain.ensures begun)
