use Rattle.std.proofs.Common.{List, ℕ, sym, subst}
use Rattle.std.specs.Prelude.{Result}
use Rattle.mi_base.specs.declared.answers.Fault.{Fault}
use Rattle.mi_model.specs.RegistryRows.{good_name}
use Rattle.mi_records.specs.Stops.{Answers, AnswersWithin}
use Rattle.std.specs.Prelude.{Option, Ok}
use Rattle.mi_records.proofs.TextLemmas.{bound_ok, long_name}
use Rattle.mi_records.proofs.text.good_name.Goals as goal

pub returns-in-Some-clause-value : goal.returns-in-Some-clause-value
returns-in-Some-clause-value c = λ table row does is.
    subst (λ (d : Result (List ℕ) Fault). Answers table row d c.judged.result) (sym (bound_ok (good_name table row) does c.in-Some.name (subst (λ (o : Option (List ℕ)). AnswersWithin 500 table row does (Ok o)) c.in-Some.is is)))
    (c.judged.ensures.value table row)

pub returns-in-None-clause-value : goal.returns-in-None-clause-value
returns-in-None-clause-value c = λ table row does is.
    let long = subst (λ (o : Option (List ℕ)). AnswersWithin 500 table row does (Ok o)) c.in-None.is is in
    long_name table row does long.0 long.1 long.2
