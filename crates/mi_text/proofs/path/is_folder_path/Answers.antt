-- A folder's path is the drive and names that are joined.
use Rattle.std.proofs.Common.{◌≡◌, ◌++◌, List, ℕ, ap, sym, ◌∙◌}
use Rattle.std.proofs.lemmas.Bool.Decides.{nat_tests}
use Rattle.std.proofs.Common.{◌<◌, false, length, leb, arith}
use Rattle.mi_text.proofs.PathLemmas.{drive, folder_by_test, no_folder, too_long}
use Rattle.mi_text.proofs.path.is_folder_path.Goals as goal

pub returns-then-text-le259 : goal.returns-then-text-le259
returns-then-text-le259 c =
    let text = c.in-Some.ensures.cases.1.1 ∙ ap (λ (q : List ℕ). drive ++ q) (sym c.in-Some.ensures.cases.2) in
    folder_by_test c.args.text.now c.in-Some.rest.now c.are_joined_parts.result text c.if-text-le259.true c.are_joined_parts.ensures

over : (n : ℕ) → 259 < n → leb n 259 ≡ false
over n e = grind (arith, nat_tests)

pub returns-else-text-le259 : goal.returns-else-text-le259
returns-else-text-le259 c = over (length c.args.text.now) c.if-text-le259.false ∙ no_folder c.args.text.now (λ f. too_long c.args.text.now c.if-text-le259.false f)

pub returns-in-None : goal.returns-in-None
returns-in-None c = no_folder c.args.text.now (λ f. c.in-None.ensures.cases _ f.text)
