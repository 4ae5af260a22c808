use Rattle.mi_rows.proofs.ConditionLaws.{reads_exactly, stops_exactly}
use Rattle.mi_schema.proofs.laws.conditions_read.Goals as goal

pub returns-clause-tree : goal.returns-clause-tree
returns-clause-tree c = reads_exactly

pub returns-clause-place : goal.returns-clause-place
returns-clause-place c = stops_exactly
