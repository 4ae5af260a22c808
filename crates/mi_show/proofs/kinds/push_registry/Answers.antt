use Rattle.std.proofs.Common.{◌++◌, ℕ, List, ap, ◌∙◌}
use Rattle.std.specs.Prelude.{codes}
use Rattle.std.specs.List.{flat_map}
use Rattle.std.specs.FinMap.{get}
use Rattle.mi_print_looks.specs.Machines.{plain_machine}
use Rattle.mi_print_looks.specs.Sets.{names_of}
use Rattle.mi_print_looks.specs.Strays.{stray_at}
use Rattle.mi_show.specs.Prints.{key_with_values, registry}
use Rattle.mi_show.proofs.ImageLemmas.{three}
use Rattle.mi_show.proofs.kinds.push_registry.Goals as goal

pub returns : goal.returns
unfolding registry
returns c =
    let m = plain_machine c.args.image.now in
    let keys : List ℕ = flat_map (λ q. key_with_values m (get m q)) (names_of (codes "k/") m) in
    let strays : List ℕ = flat_map (λ q. stray_at m (get m q)) (names_of (codes "v/") m) in
    c.in_ok-push_strays.ensures
    ∙ ap (λ (l : List ℕ). l ++ strays) (c.in_ok-push_keys.ensures ∙ ap (λ (l : List ℕ). l ++ keys) c.in_ok-push_word.ensures)
    ∙ three c.args.out.now.items (codes "Windows Registry Editor Version 5.00\n\n") keys strays
