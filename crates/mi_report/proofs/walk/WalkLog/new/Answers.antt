use Rattle.std.proofs.Common.{◌≡◌, ◌++◌, ℕ, List, length, ap, ◌∙◌}
use Rattle.std.specs.List.{flat_map}
use Rattle.mi_model.specs.Lines.{recovered_line, action_line}
use Rattle.mi_report.specs.WalkLogs.{ends_from}
use Rattle.mi_report.proofs.WalkLogLemmas.{is_made}
use Rattle.mi_report.proofs.walk.WalkLog.new.Goals as goal

pub returns : goal.returns
returns c =
    let first : c.push_recovered.new.out.items ≡ recovered_line c.args.settled = c.in_ok-push_recovered.ensures ∙ ap (λ (l : List ℕ). l ++ recovered_line c.args.settled) c.new-text.ensures.items in
    is_made c.args.settled c.args.begun.now c.args.refusal.now (record { text = c.push_actions.new.text; ends = c.push_actions.new.ends; refused = c.in_ok-refused.refused })
    (c.in_ok-push_actions.ensures.text ∙ ap (λ (l : List ℕ). l ++ flat_map action_line c.args.begun.now) first)
    (c.in_ok-push_actions.ensures.ends
    ∙ ap (λ (l : List ℕ). l ++ ends_from (length c.push_recovered.new.out.items) c.args.begun.now) c.new-ends.ensures.items
    ∙ ap (λ (l : List ℕ). ends_from (length l) c.args.begun.now) first)
    c.in_ok-refused.ensures
