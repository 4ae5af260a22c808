-- What is judged of a size is no device's error.
use Rattle.mi_installs.proofs.sources.judge_source.Goals as goal

pub returns-in-Ok-Some-clause-source : goal.returns-in-Ok-Some-clause-source
returns-in-Ok-Some-clause-source g c = λ is. absurd (c.judge_size.ensures.source is)
