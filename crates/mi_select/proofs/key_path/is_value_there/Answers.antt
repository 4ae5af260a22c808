-- The value is found where it is.
use Rattle.std.proofs.Common.{ℕ, List}
use Rattle.mi_base.specs.declared.entry.RegValue.{RegValue}
use Rattle.mi_base.specs.Machine.{value_at}
use Rattle.mi_image.specs.Items.{machine_over}
use Rattle.mi_select.proofs.KeyPathLemmas.{found_at}
use Rattle.mi_select.proofs.key_path.is_value_there.Goals as goal

pub returns : goal.returns
returns c = λ held files.
    let found = found_at (λ (v : List ℕ × RegValue). v.1) c.value.result (value_at (machine_over held files c.args.former.now) c.root.result c.key.result.now c.name.result.now) (c.value.ensures held files) in
    cc
