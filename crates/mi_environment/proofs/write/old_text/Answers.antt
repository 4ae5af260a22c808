-- The value of the variable that is held.
use Rattle.std.proofs.Common.{Some, ap, ◌∙◌}
use Rattle.std.specs.Prelude.{option_map}
use Rattle.mi_base.specs.declared.entry.Variable.{Variable}
use Rattle.mi_environment.proofs.write.old_text.Goals as goal

pub returns-in-Some : goal.returns-in-Some
returns-in-Some c = λ held files. ap Some c.as_str.ensures ∙ ap (option_map (λ (v : Variable). v.value)) (c.in-Some.ensures.value held files)

pub returns-in-None : goal.returns-in-None
returns-in-None c = λ held files. ap (option_map (λ (v : Variable). v.value)) (c.in-None.ensures.value held files)
