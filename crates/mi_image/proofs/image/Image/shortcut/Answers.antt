use Rattle.std.proofs.Common.{Some, None, refl, ap, ◌∙◌}
use Rattle.std.specs.Option.{option_copied}
use Rattle.mi_base.specs.Names.{shortcut_name}
use Rattle.mi_base.specs.Machine.{as_shortcut}
use Rattle.mi_image.proofs.LookupLemmas.{over_found}
use Rattle.mi_image.proofs.image.Image.shortcut.Goals as goal

pub returns-in_err-whole_at : goal.returns-in_err-whole_at
returns-in_err-whole_at c held files = ap option_copied c.from_residual.ensures ∙ over_found as_shortcut (λ f. refl) held files c.args.self.now (shortcut_name c.args.path.now) None (c.in_err-whole_at.ensures (shortcut_name c.args.path.now) c.shortcut_name.ensures)

pub returns : goal.returns
returns c held files = c.as_shortcut.ensures ∙ over_found as_shortcut (λ f. refl) held files c.args.self.now (shortcut_name c.args.path.now) (Some c.in_ok-whole_at.field-0.now) (c.in_ok-whole_at.ensures (shortcut_name c.args.path.now) c.shortcut_name.ensures)
