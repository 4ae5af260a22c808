-- No folder is without a path.
use Rattle.std.proofs.Common.{ℕ, List, [], Option, sym, ap, ◌∙◌}
use Rattle.std.specs.Prelude.{is_some, unwrap_or}
use Rattle.mi_base.specs.Machine.{folder_at}
use Rattle.mi_base.specs.Names.{folder_name}
use Rattle.mi_image.specs.Items.{machine_over}
use Rattle.mi_select.proofs.KeyPathLemmas.{no_path_there, nothing_at}
use Rattle.mi_select.proofs.key_path.is_folder_there.Goals as goal

pub returns-in-None : goal.returns-in-None
unfolding folder_name
returns-in-None c = λ held files.
    let items = c.args.former.now in
    let right = c.get.ensures.right in
    c.is_some.ensures ∙ nothing_at items right c.get.result c.get.ensures.value
    ∙ sym (ap (λ (o : Option (List ℕ)). is_some (folder_at (machine_over held files items) (unwrap_or o []))) c.in-None.is ∙ ap is_some (no_path_there held files items right))
