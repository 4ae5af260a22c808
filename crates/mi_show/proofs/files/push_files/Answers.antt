use Rattle.std.proofs.Common.{◌++◌, [], ℕ, List, Bor, map, sym, ap, ◌∙◌}
use Rattle.mi_text.specs.Maps.{Name}
use Rattle.mi_print_looks.specs.Machines.{no_files, machine_in}
use Rattle.mi_show.specs.Machines.{heads_tree, heads_of}
use Rattle.mi_show.specs.Prints.{files_in}
use Rattle.mi_show.proofs.ImageLemmas.{files_are_heads}
use Rattle.mi_show.proofs.files.push_files.Goals as goal

pub returns-clause-text : goal.returns-clause-text
unfolding files_in
returns-clause-text g c = λ told there.
    let held = (g.V.Volume.state c.args.vol.now).held in
    let m = machine_in held c.args.image.now in
    c.in_ok-push_tree.ensures.text told there
    ∙ ap (λ (l : List ℕ). c.args.out.now.items ++ l)
    (ap (λ (qs : List Name). heads_tree m [] (heads_of c.args.image.now qs)) (ap (map (λ (n : Bor (List ℕ)). n.now)) c.as_slice.ensures.value ∙ c.in_ok-names.ensures held no_files)
    ∙ sym (files_are_heads held c.args.image.now c.keeps_right.ensures there [] _))
