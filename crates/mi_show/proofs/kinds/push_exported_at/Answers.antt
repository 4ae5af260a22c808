use Rattle.std.proofs.Common.{◌++◌, ℕ, List, refl, ap, ◌∙◌}
use Rattle.mi_print_looks.specs.Machines.{no_files}
use Rattle.mi_show.specs.Prints.{exported_at}
use Rattle.mi_show.proofs.ImageLemmas.{whole_at}
use Rattle.mi_show.proofs.kinds.push_exported_at.Goals as goal

pub returns : goal.returns
returns c =
    c.in_ok-push_exported_entry.ensures
    ∙ ap (λ (l : List ℕ). c.args.out.now.items ++ l) (ap exported_at c.entry_at.ensures.entry ∙ whole_at exported_at (λ f. refl) no_files c.args.image.now c.args.name.now)
