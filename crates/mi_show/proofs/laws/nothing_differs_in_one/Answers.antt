use Rattle.mi_show.proofs.DiffLawLemmas.{same_nowhere, nothing_in_one}
use Rattle.mi_show.proofs.laws.nothing_differs_in_one.Goals as goal

pub returns-clause-same : goal.returns-clause-same
returns-clause-same c = same_nowhere

pub returns-clause-one : goal.returns-clause-one
returns-clause-one c = nothing_in_one
