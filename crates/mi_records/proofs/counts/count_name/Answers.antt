use Rattle.std.proofs.Common.{◌∙◌}
use Rattle.std.proofs.lemmas.Result.{IfOk-weaker}
use Rattle.mi_records.proofs.CountLemmas.{count_named}
use Rattle.mi_records.proofs.counts.count_name.Goals as goal

pub returns-in-Ok : goal.returns-in-Ok
returns-in-Ok c = IfOk-weaker c.name_where_right-name.result _ _ (λ name is. is ∙ count_named c.args.path.now 0 c.in-Ok.entry c.in-Ok.ensures) c.name_where_right-name.ensures
