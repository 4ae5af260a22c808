-- Written out, so that an edit that turns it is refused at once (docs/CONTRIBUTING.md).
use Rattle.std.proofs.Common.{◌≡◌, ℕ, true, List, take, ap, ◌∙◌}
use Rattle.mi_model.specs.Report.{walk_lines}
use Rattle.mi_report.specs.WalkLogs.{end_at}
use Rattle.mi_report.proofs.WalkLogLemmas.{closed}
use Rattle.mi_report.proofs.walk.WalkLog.close.Goals as goal

pub returns : goal.returns
returns c = λ settled begun refusal made is.
    let front : c.front_of.result ≡ walk_lines true settled (take c.args.reached begun) =
    c.front_of.ensures ∙ ap (λ (ends : List ℕ). take (end_at c.args.self.text.items ends c.args.reached) c.args.self.text.items) c.deref.ensures.value ∙ made.front c.args.reached in
    closed settled begun refusal c.args.kind.now c.args.reached (record { front = c.front_of.result; line = c.line_of.result }) front (c.line_of.ensures refusal made.refused is) is
