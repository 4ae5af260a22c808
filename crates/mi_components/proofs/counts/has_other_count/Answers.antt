-- The count of the key path, where the component is counted.
use Rattle.std.proofs.Common.{ℕ, List, sym, ap, ◌∙◌}
use Rattle.std.specs.Prelude.{◌&&◌, nat_lt}
use Rattle.std.specs.FinMap.{get}
use Rattle.mi_image.specs.Items.{machine_over}
use Rattle.mi_model.specs.KeyPaths.{key_path_text}
use Rattle.mi_model.specs.SharedCounts.{count_name, count_in, has_other_count}
use Rattle.mi_components.proofs.counts.has_other_count.Goals as goal

pub returns-then-is_counted : goal.returns-then-is_counted
unfolding has_other_count
returns-then-is_counted c = λ held files p same.
    let m = machine_over held files c.args.former.now in
    ap (nat_lt 1) (c.count_at.ensures held files ∙ ap (λ (path : List ℕ). count_in (get m (count_name path))) same)
    ∙ ap (λ b. b && nat_lt 1 (count_in (get m (count_name (key_path_text p))))) (sym c.if-is_counted.true ∙ c.is_counted.ensures)

pub returns-else-is_counted : goal.returns-else-is_counted
unfolding has_other_count
returns-else-is_counted c = λ held files p same.
    let m = machine_over held files c.args.former.now in
    c.if-is_counted.false
    ∙ ap (λ b. b && nat_lt 1 (count_in (get m (count_name (key_path_text p))))) (sym c.if-is_counted.false ∙ c.is_counted.ensures)
