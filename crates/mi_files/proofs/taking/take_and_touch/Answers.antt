use Rattle.std.proofs.Common.{List, ℕ, [], ◌∷◌, ◌++◌, ap, ◌∙◌}
use Rattle.mi_files.proofs.TakeLemmas.{on_ok}
use Rattle.mi_files.proofs.taking.take_and_touch.Goals as goal

pub returns-clause-touched : goal.returns-clause-touched
returns-clause-touched c = on_ok c.take_file.result (c.in_ok-push.ensures.items ∙ ap (λ (p : List ℕ). c.args.touched.now.items ++ p ∷ []) c.in_ok-place_above.ensures)
