use Rattle.std.proofs.Common.{◌++◌, ℕ, List, Bor, map, ap, ◌∙◌}
use Rattle.std.specs.List.{flat_map}
use Rattle.std.specs.FinMap.{keys}
use Rattle.mi_text.specs.Maps.{Map}
use Rattle.mi_print_looks.specs.Machines.{machine_in}
use Rattle.mi_show.specs.Differences.{difference, names_of_either}
use Rattle.mi_show.proofs.ImageLemmas.{names_text}
use Rattle.mi_print_looks.proofs.SetLemmas.{now_of}
use Rattle.mi_show.proofs.DiffLemmas.{either_same}
use Rattle.mi_show.proofs.differences.differences.Goals as goal

pub returns-clause-text : goal.returns-clause-text
returns-clause-text g c = λ told told_other there there_other.
    let held = (g.V.Volume.state c.args.vol.now).held in
    let held_other = (g.W.Volume.state c.args.other.now).held in
    let before = c.args.before.now in
    let after = c.args.after.now in
    let old = machine_in held_other before in
    let new = machine_in held after in
    let names = ap (map now_of) c.as_slice.ensures.value ∙ c.in_ok-names.ensures ∙ ap (λ (s : Map (Unit {0})). keys s) c.in_ok-set.ensures ∙ either_same c.args.front.now held_other held before after in
    c.in_ok-push_all.ensures.text told told_other there there_other
    ∙ ap (λ (l : List ℕ). l ++ flat_map (λ (n : Bor (List ℕ)). difference old new n.now) c.as_slice.result.now) c.new-text.ensures.items
    ∙ names_text (difference old new) c.as_slice.result.now (names_of_either c.args.front.now old new) names
