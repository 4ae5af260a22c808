use Rattle.std.proofs.Common.{Some, None, refl, ap, ◌∙◌}
use Rattle.std.specs.Option.{option_copied}
use Rattle.mi_base.specs.Names.{client_name}
use Rattle.mi_base.specs.Machine.{as_client}
use Rattle.mi_image.proofs.LookupLemmas.{over_found}
use Rattle.mi_image.proofs.image.Image.client.Goals as goal

pub returns-in_err-whole_at : goal.returns-in_err-whole_at
returns-in_err-whole_at c held files = ap option_copied c.from_residual.ensures ∙ over_found as_client (λ f. refl) held files c.args.self.now (client_name c.args.component.number c.args.product.number) None (c.in_err-whole_at.ensures (client_name c.args.component.number c.args.product.number) c.client_name.ensures)

pub returns : goal.returns
returns c held files = c.as_client.ensures ∙ over_found as_client (λ f. refl) held files c.args.self.now (client_name c.args.component.number c.args.product.number) (Some c.in_ok-whole_at.field-0.now) (c.in_ok-whole_at.ensures (client_name c.args.component.number c.args.product.number) c.client_name.ensures)
