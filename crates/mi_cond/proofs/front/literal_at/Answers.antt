use Rattle.std.proofs.Common.{ℕ, ◌-◌, List, take, drop, length, arith}
use Rattle.std.proofs.lemmas.List.{take_rest}
use Rattle.mi_cond.proofs.FrontFinds.{literal_found, literal_lost}
use Rattle.mi_cond.proofs.front.literal_at.Goals as goal

pub returns-in-Some : goal.returns-in-Some
returns-in-Some c =
    let rest = c.args.rest.now in
    let text : List ℕ = take (length rest - 1) (drop 1 rest) in
    let found = c.in-Some.ensures in
    literal_found rest text c.of-literal.result c.in-Some.n c.requires (take_rest rest 1) (found.0).high found.1 (λ k lt. (found.0).before k (omega arith) lt) c.of-literal.ensures

pub returns-in-None : goal.returns-in-None
returns-in-None c =
    let rest = c.args.rest.now in
    let text : List ℕ = take (length rest - 1) (drop 1 rest) in
    literal_lost rest text c.requires (take_rest rest 1) c.in-None.ensures
