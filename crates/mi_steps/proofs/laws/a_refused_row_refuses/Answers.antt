use Rattle.std.proofs.Common.{◌∷◌, ◌++◌}
use Rattle.mi_steps.proofs.RowLemmas.{row_refused, phase_refused}
use Rattle.mi_steps.proofs.laws.a_refused_row_refuses.Goals as goal

pub returns : goal.returns
returns c files w effect b h i effects more row f is so_far refused = phase_refused effect w (effects ++ row ∷ more) f is (row_refused files w.machine b h i effects so_far row more f refused)
