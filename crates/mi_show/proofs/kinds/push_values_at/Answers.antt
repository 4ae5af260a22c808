use Rattle.std.proofs.Common.{◌++◌, ℕ, List, Bor, map, ap, ◌∙◌}
use Rattle.std.specs.FinMap.{get}
use Rattle.mi_print_looks.specs.Machines.{no_files, plain_machine}
use Rattle.mi_show.specs.Prints.{exported_at}
use Rattle.mi_show.proofs.ImageLemmas.{names_text}
use Rattle.mi_show.proofs.kinds.push_values_at.Goals as goal

pub returns : goal.returns
returns c =
    let at : List ℕ → List ℕ = λ q. exported_at (get (plain_machine c.args.image.now) q) in
    c.in_ok-push_exported_all.ensures
    ∙ ap (λ (l : List ℕ). c.args.out.now.items ++ l) (names_text at c.as_slice.result.now _ (ap (map (λ (n : Bor (List ℕ)). n.now)) c.as_slice.ensures.value ∙ c.in_ok-names.ensures no_files no_files))
