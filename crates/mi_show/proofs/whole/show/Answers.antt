use Rattle.std.proofs.Common.{◌≡◌, ◌++◌, ℕ, List, sym, ap, subst, ◌∙◌}
use Rattle.mi_text.specs.Maps.{Map}
use Rattle.mi_print_looks.specs.Machines.{no_files, machine_in}
use Rattle.mi_show.specs.Machines.{IsScanned}
use Rattle.mi_show.specs.Prints.{shown}
use Rattle.mi_show.proofs.ImageLemmas.{shown_of}
use Rattle.mi_show.proofs.whole.show.Goals as goal

pub returns-clause-text : goal.returns-clause-text
returns-clause-text g c = λ told.
    let held = (g.V.Volume.state c.args.vol.now).held in
    let items = c.in_ok-image.image in
    let mid = (g.V.Volume.state c.scan.new.vol).held in
    let same : mid ≡ held = (c.in_ok-image.ensures.looks told).stays.held in
    shown_of held items c.from_vec.result (c.in_ok-image.ensures.image told no_files) (λ there.
    c.from_vec.ensures
    ∙ c.in_ok-push_machine.ensures.text told (subst (λ (d : Map (List ℕ)). IsScanned d items) (sym same) there)
    ∙ ap (λ (l : List ℕ). l ++ shown (machine_in mid items)) c.new-out.ensures.items
    ∙ ap (λ (d : Map (List ℕ)). shown (machine_in d items)) same)
