-- Written out, so that an edit that turns it is refused at once (docs/GATE.md).
use Rattle.std.proofs.Common.{◌≡◌, ◌++◌, ◌∷◌, [], List, ℕ, sym, ap, subst, ◌∙◌, codes}
use Rattle.std.specs.Prelude.{OnOk}
use Rattle.std.specs.List.{flat_map}
use Rattle.mi_base.specs.declared.entry.RegValue.{RegValue}
use Rattle.mi_print.specs.Texts.{bytes_text, wide}
use Rattle.mi_print.specs.Registry.{value_name, value_line, exported}
use Rattle.mi_print.proofs.CodeLemmas.{six}
use Rattle.mi_print.proofs.registry.push_exported.Goals as goal

pub returns-in_ok-bytes-in-List : goal.returns-in_ok-bytes-in-List
unfolding exported
returns-in_ok-bytes-in-List c =
    let o : List ℕ = c.args.out.now.items in
    let shown : List ℕ = c.args.shown.now in
    let title : List ℕ = codes "hex(7):" in
    let bytes : c.as_slice-in-List-2.result.now ≡ flat_map wide c.in-List.texts ++ 0 ∷ 0 ∷ [] =
    c.as_slice-in-List-2.ensures.value ∙ c.in_ok-bytes-in-List.ensures ∙ ap (λ (ts : List (List ℕ)). flat_map wide ts ++ 0 ∷ 0 ∷ []) c.as_slice-in-List.ensures in
    let text =
    (λ i. c.in_ok-push_comment-in-List.ensures i ++ value_name shown ++ title ++ bytes_text (bytes i) ++ 10 ∷ [])
    ∙ six o (codes "; ") (value_line shown c.args.value.now) (value_name shown) title (bytes_text (flat_map wide c.in-List.texts ++ 0 ∷ 0 ∷ [])) (10 ∷ [])
    ∙ (λ i. o ++ (codes "; " ++ value_line shown (c.in-List.is i) ++ value_name shown ++ title ++ bytes_text (flat_map wide c.in-List.texts ++ 0 ∷ 0 ∷ []) ++ 10 ∷ []))
    ∙ ap (λ (v : RegValue). o ++ exported shown v) (sym c.in-List.is) in
    subst (λ (l : List ℕ). OnOk c.push_typed-in-List.result (c.push_typed-in-List.new.out.items ≡ l)) text c.push_typed-in-List.ensures
