use Rattle.std.proofs.Common.{◌++◌, ℕ, List, refl, ap, ◌∙◌}
use Rattle.mi_print_looks.specs.Machines.{no_files, plain_machine}
use Rattle.mi_print_looks.specs.Strays.{stray_at}
use Rattle.mi_show.proofs.ImageLemmas.{whole_at}
use Rattle.mi_show.proofs.kinds.push_stray_at.Goals as goal

pub returns : goal.returns
returns c =
    let stray = stray_at (plain_machine c.args.image.now) in
    c.in_ok-push_stray_entry.ensures
    ∙ ap (λ (l : List ℕ). c.args.out.now.items ++ l) (ap stray c.entry_at.ensures.entry ∙ whole_at stray (λ f. refl) no_files c.args.image.now c.args.name.now)
