use Rattle.std.proofs.Common.{ap, ◌∙◌}
use Rattle.mi_features.specs.Requests.{is_kept_local}
use Rattle.mi_features.proofs.RequestLemmas.{with_local}
use Rattle.mi_features.proofs.asking.choice_at.Goals as goal

pub returns : goal.returns
returns c = λ f at. with_local c.args.line.request _ _ (c.is_local_after.ensures ∙ ap (is_kept_local c.args.line.request) (c.is_recorded_at-recorded.ensures f at))
