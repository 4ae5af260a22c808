-- Written out, so that an edit that turns it is refused at once (docs/GATE.md).
use Rattle.std.proofs.Common.{◌≡◌, ◌≤◌, ◌++◌, List, ℕ, length, drop, sym, ap, subst, ◌∙◌, append_assoc, arith}
use Rattle.std.proofs.lemmas.List.{take-take, length-take-le}
use Rattle.std.specs.Prelude.{OnOk}
use Rattle.mi_text.specs.Path.{up_to_last}
use Rattle.mi_print.specs.Trees.{shared, depth, bars, branches, path_lines}
use Rattle.mi_print.proofs.trees.push_path.Goals as goal

pub returns : goal.returns
unfolding shared path_lines
returns c =
    let o : List ℕ = c.args.out.now.items in
    let path : List ℕ = c.args.path.now in
    let both : List ℕ = shared c.args.former.now path in
    let low : c.folder_len.result ≤ c.common_len.result = omega (arith, c.folder_len.ensures.within, length-take-le c.common_len.result path c.common_len.ensures.within) in
    let folder : c.split_at.result.0.now ≡ both =
    c.split_at.ensures.front ∙ sym (take-take c.folder_len.result c.common_len.result path low) ∙ c.folder_len.ensures.folder ∙ ap up_to_last c.common_len.ensures.common in
    let folders : c.depth-folders.result ≡ depth both = c.depth-folders.ensures.depth ∙ ap depth folder in
    let rest : c.split_at.result.1.now ≡ drop (length both) path = c.split_at.ensures.back ∙ ap (λ (n : ℕ). drop n path) (sym c.split_at.ensures.front_len ∙ ap length folder) in
    let text =
    (λ i. c.in_ok-push_bars.ensures i ++ branches (folders i) (rest i))
    ∙ ap (λ (n : ℕ). o ++ bars n ++ branches (depth both) (drop (length both) path)) folders
    ∙ append_assoc o (bars (depth both)) (branches (depth both) (drop (length both) path)) in
    subst (λ (l : List ℕ). OnOk c.push_branches.result (c.push_branches.new.out.items ≡ l)) text c.push_branches.ensures
