use Rattle.std.proofs.Common.{List, ℕ, Some, None, refl, ap, ◌∙◌}
use Rattle.std.specs.Prelude.{option_map}
use Rattle.std.specs.Option.{option_copied}
use Rattle.mi_base.specs.declared.entry.Variable.{Variable}
use Rattle.mi_base.specs.Names.{variable_name}
use Rattle.mi_base.specs.Machine.{as_variable}
use Rattle.mi_image.proofs.LookupLemmas.{over_found}
use Rattle.mi_image.proofs.image.Image.variable.Goals as goal

pub returns-in_err-whole_at : goal.returns-in_err-whole_at
returns-in_err-whole_at c held files =
    let q = variable_name c.args.system c.args.name.now in
    ap option_copied c.from_residual.ensures ∙ ap (option_map (λ (v : Variable). v.value)) (over_found as_variable (λ f. refl) held files c.args.self.now q None (c.in_err-whole_at.ensures q c.variable_name.ensures))

pub returns-in_err-variable : goal.returns-in_err-variable
returns-in_err-variable c held files =
    let q = variable_name c.args.system c.args.name.now in
    ap option_copied c.from_residual-in_err-variable.ensures
    ∙ ap (option_map (λ (v : Variable). v.value)) (c.in_err-variable.ensures ∙ over_found as_variable (λ f. refl) held files c.args.self.now q (Some c.in_ok-whole_at.field-0.now) (c.in_ok-whole_at.ensures q c.variable_name.ensures))

pub returns : goal.returns
returns c held files =
    let q = variable_name c.args.system c.args.name.now in
    ap (λ (t : List ℕ). Some t) c.as_str.ensures
    ∙ ap (option_map (λ (v : Variable). v.value)) (c.in_ok-variable.ensures ∙ over_found as_variable (λ f. refl) held files c.args.self.now q (Some c.in_ok-whole_at.field-0.now) (c.in_ok-whole_at.ensures q c.variable_name.ensures))
