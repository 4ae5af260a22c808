use Rattle.std.proofs.Common.{ℕ, ◌+◌, length, sym, ap, subst, ◌∙◌, length-append}
use Rattle.mi_dirs.specs.Views.{TargetFolders}
use Rattle.mi_dirs.proofs.TargetLemmas.{folders-none}
use Rattle.mi_dirs.proofs.targets.none_each.Goals as goal

pub loop-row-preserved : goal.loop-row-preserved
loop-row-preserved c = (
  ap length c.in_ok-push.ensures.items ∙ length-append c.loop-row.targets.items _ ∙ ap (λ (n : ℕ). n + 1) c.loop-row.invariant.0,
  subst TargetFolders (sym c.in_ok-push.ensures.items) (folders-none c.loop-row.targets.items c.loop-row.invariant.1),
)
