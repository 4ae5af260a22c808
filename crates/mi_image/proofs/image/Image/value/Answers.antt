use Rattle.std.proofs.Common.{List, ℕ, Some, None, refl, ap, ◌∙◌}
use Rattle.std.specs.Option.{option_copied, option_map}
use Rattle.mi_base.specs.declared.entry.RegValue.{RegValue}
use Rattle.mi_base.specs.Names.{value_name}
use Rattle.mi_base.specs.Machine.{as_value}
use Rattle.mi_image.proofs.LookupLemmas.{over_found}
use Rattle.mi_image.proofs.image.Image.value.Goals as goal

pub returns-in_err-whole_at : goal.returns-in_err-whole_at
returns-in_err-whole_at c held files =
    let q = value_name c.args.root c.args.key.now c.args.name.now in
    ap option_copied c.from_residual.ensures ∙ ap (option_map (λ (v : List ℕ × RegValue). v.1)) (over_found as_value (λ f. refl) held files c.args.self.now q None (c.in_err-whole_at.ensures q c.value_name.ensures))

pub returns : goal.returns
returns c held files =
    let q = value_name c.args.root c.args.key.now c.args.name.now in
    c.as_value.ensures ∙ ap (option_map (λ (v : List ℕ × RegValue). v.1)) (over_found as_value (λ f. refl) held files c.args.self.now q (Some c.in_ok-whole_at.field-0.now) (c.in_ok-whole_at.ensures q c.value_name.ensures))
