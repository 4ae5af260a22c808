use Rattle.std.proofs.Common.{◌++◌, List, ℕ, refl, ap, ◌∙◌}
use Rattle.mi_commands.proofs.reply.out_of_memory.Goals as goal

pub returns-clause-wants : goal.returns-clause-wants
returns-clause-wants c = (refl, λ found. let front = c.memory_line.ensures found in (front.0, ap (λ (l : List ℕ). l ++ c.memory_line.result.now) c.new.ensures ∙ front.1))
