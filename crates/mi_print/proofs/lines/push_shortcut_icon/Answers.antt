use Rattle.std.proofs.Common.{◌++◌, ◌∷◌, ℕ, List, ap, ◌∙◌, codes}
use Rattle.std.specs.Fmt.{signed_decimal}
use Rattle.mi_print.specs.Texts.{field}
use Rattle.mi_print.specs.Lines.{shortcut_icon}
use Rattle.mi_print.proofs.CodeLemmas.{five}
use Rattle.mi_print.proofs.lines.push_shortcut_icon.Goals as goal

pub returns : goal.returns
unfolding shortcut_icon
returns c =
    let o = c.args.out.now.items in
    let last : List ℕ = 9 ∷ signed_decimal c.args.shortcut.now.icon_index in
    c.in_ok-push_index.ensures
    ∙ ap (λ (l : List ℕ). l ++ last) (c.in_ok-push_titled-2.ensures ∙ ap (λ (l : List ℕ). l ++ codes "\ticon " ++ field c.as_str-2.result.now) c.in_ok-push_titled.ensures)
    ∙ five o (codes "\tdescription ") (field c.as_str.result.now) (codes "\ticon ") (field c.as_str-2.result.now) last
    ∙ (λ i. o ++ (codes "\tdescription " ++ field (c.as_str.ensures i) ++ codes "\ticon " ++ field (c.as_str-2.ensures i) ++ last))
