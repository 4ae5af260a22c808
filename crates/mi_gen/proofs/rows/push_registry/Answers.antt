use Rattle.std.proofs.Common.{◌≡◌, ◌∙◌, ◌++◌, [], ◌∷◌, List, ℕ, pos, codes, subst}
use Rattle.std.specs.Prelude.{OnOk}
use Rattle.mi_base.specs.Names.{four_digits}
use Rattle.mi_idt.specs.Cells.{Text, Number}
use Rattle.mi_idt.specs.Written.{written_row, with_ends}
use Rattle.mi_model.specs.Selftest.{numbered, component_of}
use Rattle.mi_gen.proofs.rows.push_registry.Goals as goal

pub returns : goal.returns
returns c =
    let line : List ℕ → List ℕ → List ℕ → List ℕ → List ℕ =
    λ key name value component. c.args.out.now.items ++ with_ends (written_row (Text key ∷ Number (pos 2) ∷ Text (codes "Software\\Selftest") ∷ Text name ∷ Text value ∷ Text component ∷ []) ∷ []) in
    let key : c.as_str.result.now ≡ numbered (codes "R") c.args.file = c.as_str.ensures ∙ c.in_ok-key.ensures in
    let name : c.as_str-2.result.now ≡ numbered (codes "v") c.args.file = c.as_str-2.ensures ∙ c.in_ok-name.ensures in
    let value : c.as_str-3.result.now ≡ four_digits c.args.file = c.as_str-3.ensures ∙ c.in_ok-value.ensures in
    let component : c.as_str-4.result.now ≡ component_of c.args.file = c.as_str-4.ensures ∙ c.in_ok-component.ensures in
    subst (λ (written : List ℕ). OnOk c.push_row.result (c.push_row.new.out.items ≡ written)) (λ i. line (key i) (name i) (value i) (component i)) c.push_row.ensures
