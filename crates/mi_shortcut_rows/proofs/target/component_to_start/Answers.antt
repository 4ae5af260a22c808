-- Written out, so that an edit that turns it is refused at once (docs/CONTRIBUTING.md).
use Rattle.std.proofs.Common.{Bool, ap, sym}
use Rattle.mi_shortcut_rows.specs.Targets.{component_to_start}
use Rattle.mi_shortcut_rows.proofs.target.component_to_start.Goals as goal

pub returns-then-is_feature : goal.returns-then-is_feature
returns-then-is_feature c = sym (ap (λ (b : Bool). component_to_start b c.args.row.now) c.if-is_feature.true)

pub returns-else-is_feature : goal.returns-else-is_feature
returns-else-is_feature c = sym (ap (λ (b : Bool). component_to_start b c.args.row.now) c.if-is_feature.false)
