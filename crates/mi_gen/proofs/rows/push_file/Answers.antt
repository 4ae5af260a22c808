use Rattle.std.proofs.Common.{◌≡◌, ◌∙◌, ◌++◌, ◌+◌, suc, [], ◌∷◌, List, ℕ, pos, codes, subst, arith}
use Rattle.std.specs.Prelude.{OnOk}
use Rattle.mi_idt.specs.Cells.{Nothing, Text, Number}
use Rattle.mi_idt.specs.Written.{written_row, with_ends}
use Rattle.mi_model.specs.Selftest.{numbered, component_of, name_of_file}
use Rattle.mi_gen.proofs.rows.push_file.Goals as goal

pub returns : goal.returns
returns c =
    let line : List ℕ → List ℕ → List ℕ → ℕ → List ℕ =
    λ key component name n. c.args.out.now.items ++ with_ends (written_row (Text key ∷ Text component ∷ Text name ∷ Number (pos 4) ∷ Nothing ∷ Nothing ∷ Nothing ∷ Number (pos n) ∷ []) ∷ []) in
    let key : c.as_str.result.now ≡ numbered (codes "F") c.args.file = c.as_str.ensures ∙ c.in_ok-key.ensures in
    let component : c.as_str-2.result.now ≡ component_of c.args.file = c.as_str-2.ensures ∙ c.in_ok-component.ensures in
    let name : c.as_str-3.result.now ≡ name_of_file c.args.file = c.as_str-3.ensures ∙ c.in_ok-name.ensures in
    let next : c.args.file + 1 ≡ suc c.args.file = omega arith in
    subst (λ (written : List ℕ). OnOk c.push_row.result (c.push_row.new.out.items ≡ written)) (λ i. line (key i) (component i) (name i) (next i)) c.push_row.ensures
