-- A byte 0 at the end, or none.
use Rattle.std.proofs.Common.{◌≡◌, true, List, ℕ, Some, None, sym, subst, lit<}
use Rattle.std.proofs.lemmas.Str.Pattern.{strip_suffix_char}
use Rattle.mi_regval.specs.Lists.{has_end, without_end}
use Rattle.mi_regval.proofs.MarkLemmas.{end_there, no_end}
use Rattle.mi_regval.proofs.marks.split_end.Goals as goal

pub returns-in-Some : goal.returns-in-Some
returns-in-Some c =
    let text = strip_suffix_char 0 c.args.text.now (Some c.in-Some.rest) c.in-Some.ensures.cases (lit< tt) in
    subst (λ (t : List ℕ). (true ≡ has_end t) × (c.in-Some.rest.now ≡ without_end t)) (sym text) (end_there c.in-Some.rest.now)

pub returns-in-None : goal.returns-in-None
returns-in-None c = no_end c.args.text.now (strip_suffix_char 0 c.args.text.now None c.in-None.ensures.cases (lit< tt))
