-- Written out, so that an edit that turns it is refused at once (docs/CONTRIBUTING.md).
use Rattle.std.proofs.Common.{ℕ, ◌≤◌, length, take, sym, ap, subst, ◌∙◌}
use Rattle.std.proofs.Math.Nat.{min-le_right}
use Rattle.std.proofs.lemmas.List.{length-take-le, take_min}
use Rattle.mi_report.proofs.log.first.Goals as goal

pub slice_bounds-result-end : goal.slice_bounds-result-end
slice_bounds-result-end c =
    let names = c.args.names.now in
    sym (length-take-le c.min.result names (subst (λ (n : ℕ). n ≤ length names) (sym c.min.ensures) (min-le_right _ (length names))))

pub returns : goal.returns
returns c = ap (λ (n : ℕ). take n c.args.names.now) c.min.ensures ∙ take_min c.args.count c.args.names.now
