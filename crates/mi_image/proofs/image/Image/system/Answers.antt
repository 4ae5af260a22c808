use Rattle.std.proofs.Common.{List, ℕ, Some, None, refl, ap, sym, ◌∙◌}
use Rattle.std.specs.Option.{option_copied}
use Rattle.mi_base.specs.Names.{system_name}
use Rattle.mi_base.specs.Machine.{as_system}
use Rattle.mi_image.proofs.LookupLemmas.{over_found}
use Rattle.mi_image.proofs.SystemLemmas.{read_default, read_held}
use Rattle.mi_image.proofs.image.Image.system.Goals as goal

pub returns-then-not-has_system : goal.returns-then-not-has_system
returns-then-not-has_system c held files = read_default held files c.args.self.now c.args.property.now _ (sym c.has_system.ensures ∙ c.if-not-has_system.true) c.default_value.ensures

pub returns-in_err-whole_at : goal.returns-in_err-whole_at
returns-in_err-whole_at c held files =
    let q = system_name c.args.property.now in
    ap option_copied c.from_residual.ensures
    ∙ read_held held files c.args.self.now c.args.property.now _ (sym c.has_system.ensures ∙ c.if-not-has_system.false) (over_found as_system (λ f. refl) held files c.args.self.now q None (c.in_err-whole_at.ensures q c.system_name.ensures))

pub returns-in_err-value : goal.returns-in_err-value
returns-in_err-value c held files =
    let q = system_name c.args.property.now in
    ap option_copied c.from_residual-in_err-value.ensures
    ∙ read_held held files c.args.self.now c.args.property.now _ (sym c.has_system.ensures ∙ c.if-not-has_system.false) (c.in_err-value.ensures ∙ over_found as_system (λ f. refl) held files c.args.self.now q (Some c.in_ok-whole_at.field-0.now) (c.in_ok-whole_at.ensures q c.system_name.ensures))

pub returns : goal.returns
returns c held files =
    let q = system_name c.args.property.now in
    ap (λ (t : List ℕ). Some t) c.as_str.ensures
    ∙ read_held held files c.args.self.now c.args.property.now _ (sym c.has_system.ensures ∙ c.if-not-has_system.false) (c.in_ok-value.ensures ∙ over_found as_system (λ f. refl) held files c.args.self.now q (Some c.in_ok-whole_at.field-0.now) (c.in_ok-whole_at.ensures q c.system_name.ensures))
