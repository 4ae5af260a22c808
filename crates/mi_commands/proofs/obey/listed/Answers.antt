use Rattle.std.proofs.Common.{◌≡◌, List, ℕ, Result, inl, inr, subst, ◌∙◌}
use Rattle.std.specs.Prelude.{IfOk}
use Rattle.mi_text.specs.declared.text.NoMemory.{NoMemory}
use Rattle.mi_commands.proofs.obey.listed.Goals as goal

pub returns-in-Ok : goal.returns-in-Ok
returns-in-Ok c lines is = record { answers = inl (c.told.ensures.kind, c.told.ensures.log ∙ subst (λ (r : Result (List ℕ) NoMemory). IfOk r (λ bytes. bytes ≡ lines)) c.in-Ok.is is); reached = c.told.ensures.reached }

pub returns-in-Err : goal.returns-in-Err
returns-in-Err c lines is = record { answers = inr c.out_of_memory.ensures.wants; reached = c.out_of_memory.ensures.reached }
