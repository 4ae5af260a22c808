use Rattle.std.proofs.Common.{◌≡◌, ◌++◌, ℕ, List, Bor, drop, codes}
use Rattle.std.specs.List.{flat_map}
use Rattle.std.specs.FinMap.{get}
use Rattle.mi_print_looks.specs.Machines.{plain_machine}
use Rattle.mi_show.specs.Prints.{other_at}
use Rattle.mi_show.proofs.entries.push_all.Given as goal

abbrev pub invariant-loop-name : goal.invariant-loop-name
invariant-loop-name l =
    let at : Bor (List ℕ) → List ℕ = λ n. codes "  " ++ other_at (get (plain_machine l.image) n.now) in
    l.out.items ++ flat_map at (drop l.name-index l.names) ≡ l.fn.out.items ++ flat_map at l.names
