-- The new value, or a copy of the old one.
use Rattle.std.proofs.Common.{ap, sym, ◌∙◌}
use Rattle.std.specs.Prelude.{Ok, Some}
use Rattle.std.specs.Option.{option_copied}
use Rattle.std.proofs.lemmas.Result.{IfOk-weaker}
use Rattle.mi_records.proofs.ValueLemmas.{stays_value}
use Rattle.mi_records.proofs.value.after.Goals as goal

pub returns-in-Value : goal.returns-in-Value
returns-in-Value c = λ text is. c.change_gives_the_value.ensures.value text _ c.in-Value.value (is ∙ ap Ok c.in-Value.is)

pub returns-in-Some : goal.returns-in-Some
returns-in-Some c = λ text is.
    let unchanged = c.change_gives_the_value.ensures.unchanged text (option_copied c.args.old) (is ∙ ap Ok c.in-Unchanged.is) in
    IfOk-weaker c.copy_value.result _ _ (λ v same. stays_value text (option_copied c.args.old) v unchanged (ap option_copied c.in-Some.is ∙ ap Some (sym same))) c.copy_value.ensures
