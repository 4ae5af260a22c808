use Rattle.std.proofs.Common.{◌++◌, ℕ, List, refl, ap, ◌∙◌}
use Rattle.mi_print_looks.specs.Machines.{no_files, plain_machine}
use Rattle.mi_show.specs.Prints.{key_with_values}
use Rattle.mi_show.proofs.ImageLemmas.{whole_at}
use Rattle.mi_show.proofs.kinds.push_key_at.Goals as goal

pub returns : goal.returns
returns c =
    let key = key_with_values (plain_machine c.args.image.now) in
    c.in_ok-push_key_entry.ensures
    ∙ ap (λ (l : List ℕ). c.args.out.now.items ++ l) (ap key c.entry_at.ensures.entry ∙ whole_at key (λ f. refl) no_files c.args.image.now c.args.name.now)
