use Rattle.mi_schema.proofs.ConditionFaults.{condition_stops}
use Rattle.mi_schema.proofs.laws.conditions_refused.Goals as goal

pub returns : goal.returns
returns c = condition_stops
