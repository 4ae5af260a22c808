use Rattle.std.proofs.Common.{◌++◌, ℕ, List, ap, ◌∙◌}
use Rattle.mi_print_looks.specs.Machines.{no_files}
use Rattle.mi_show.specs.Prints.{other_at}
use Rattle.mi_show.proofs.ImageLemmas.{other_whole}
use Rattle.mi_show.proofs.entries.push_at.Goals as goal

pub returns : goal.returns
returns c =
    c.in_ok-push_entry.ensures
    ∙ ap (λ (l : List ℕ). c.args.out.now.items ++ l) (ap other_at c.entry_at.ensures.entry ∙ other_whole no_files c.args.image.now c.args.name.now)
