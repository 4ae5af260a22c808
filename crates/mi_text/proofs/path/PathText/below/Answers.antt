-- What is made is a path.
use Rattle.std.proofs.Common.{◌≡◌, ◌≤◌, ◌++◌, ◌∷◌, [], true, ap, sym, subst, ◌∙◌}
use Rattle.mi_text.specs.Path.{is_part}
use Rattle.mi_text.proofs.PathLemmas.{made_below, IsFolder, folder_is_path, folder_path}
use Rattle.mi_text.proofs.path.PathText.below.Goals as goal

is_made : (c : goal.Else-len-gt259) → IsFolder c.in_ok-text.text
is_made c =
    let part : is_part c.args.part.now ≡ true = sym c.if-not-is_part.ensures in
    let text = c.in_ok-text.ensures ∙ ap (λ q. q ++ c.args.part.now ++ 92 ∷ []) (c.as_str.ensures ∙ c.self.view_is) in
    made_below c.args.self.now c.args.part.now c.in_ok-text.text c.requires part text (subst (λ n. n ≤ 259) c.len.ensures c.if-len-gt259.false)

pub invariant_of-result : goal.invariant_of-result
invariant_of-result c = folder_is_path c.in_ok-text.text (is_made c)

pub returns-clause-folder : goal.returns-clause-folder
returns-clause-folder c = folder_path c.in_ok-text.text (is_made c)
