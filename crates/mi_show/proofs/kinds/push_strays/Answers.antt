use Rattle.std.proofs.Common.{◌++◌, ℕ, List, Bor, map, ap, ◌∙◌}
use Rattle.std.specs.FinMap.{get}
use Rattle.mi_print_looks.specs.Machines.{no_files, plain_machine}
use Rattle.mi_print_looks.specs.Strays.{stray_at}
use Rattle.mi_show.proofs.ImageLemmas.{names_text}
use Rattle.mi_show.proofs.kinds.push_strays.Goals as goal

pub returns : goal.returns
returns c =
    let at : List ℕ → List ℕ = λ q. stray_at (plain_machine c.args.image.now) (get (plain_machine c.args.image.now) q) in
    c.in_ok-push_strays_all.ensures
    ∙ ap (λ (l : List ℕ). c.args.out.now.items ++ l) (names_text at c.as_slice.result.now _ (ap (map (λ (n : Bor (List ℕ)). n.now)) c.as_slice.ensures.value ∙ c.in_ok-names.ensures no_files no_files))
