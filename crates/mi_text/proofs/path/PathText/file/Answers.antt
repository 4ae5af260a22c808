-- What is made is a path.
use Rattle.std.proofs.Common.{◌≡◌, ◌≤◌, ◌++◌, [], true, ap, sym, subst, ◌∙◌}
use Rattle.mi_text.specs.Path.{is_part}
use Rattle.mi_text.proofs.PathLemmas.{made_file, IsFile, file_is_path, file_path}
use Rattle.mi_text.proofs.path.PathText.file.Goals as goal

is_made : (c : goal.Else-len-gt259) → IsFile c.in_ok-text.text
is_made c =
    let part : is_part c.args.part.now ≡ true = sym c.if-not-is_part.ensures in
    let text = c.in_ok-text.ensures ∙ ap (λ q. q ++ c.args.part.now ++ []) (c.as_str.ensures ∙ c.self.view_is) in
    made_file c.args.self.now c.args.part.now c.in_ok-text.text c.requires part text (subst (λ n. n ≤ 259) c.len.ensures c.if-len-gt259.false)

pub invariant_of-result : goal.invariant_of-result
invariant_of-result c = file_is_path c.in_ok-text.text (is_made c)

pub returns-clause-file : goal.returns-clause-file
returns-clause-file c = file_path c.in_ok-text.text (is_made c)
