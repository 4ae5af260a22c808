use Rattle.std.proofs.Common.{◌++◌, [], ℕ, List, ap, ◌∙◌}
use Rattle.std.specs.Prelude.{codes}
use Rattle.mi_print_looks.specs.Machines.{machine_in, plain_machine}
use Rattle.mi_print.specs.Trees.{tree}
use Rattle.mi_show.specs.Prints.{lines, files_in, section, others, shown}
use Rattle.mi_show.proofs.ImageLemmas.{three, lines_same, others_same}
use Rattle.mi_show.proofs.whole.push_machine.Goals as goal

pub returns-clause-text : goal.returns-clause-text
unfolding shown
returns-clause-text g c = λ told there.
    let held = (g.V.Volume.state c.args.vol.now).held in
    let items = c.args.image.now in
    let files : List ℕ = section (codes "Files") (tree [] (files_in (machine_in held items))) in
    c.in_ok-push_others.ensures
    ∙ ap (λ (l : List ℕ). l ++ others (plain_machine items)) (c.in_ok-push_files_section.ensures.text told there ∙ ap (λ (l : List ℕ). l ++ files) c.in_ok-push_section.ensures)
    ∙ three c.args.out.now.items (section (codes "Products") (lines (codes "p/") (plain_machine items))) files (others (plain_machine items))
    ∙ (λ i. c.args.out.now.items ++ (section (codes "Products") (lines_same held items (codes "p/") i) ++ files ++ others_same held items i))
