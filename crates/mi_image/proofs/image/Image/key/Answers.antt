use Rattle.std.proofs.Common.{Some, None, refl, ap, ◌∙◌}
use Rattle.std.specs.Prelude.{is_some}
use Rattle.mi_base.specs.Names.{key_name}
use Rattle.mi_base.specs.Machine.{as_key}
use Rattle.mi_image.proofs.LookupLemmas.{over_found}
use Rattle.mi_image.proofs.image.Image.key.Goals as goal

pub returns-in-Some : goal.returns-in-Some
returns-in-Some c held files = c.is_key.ensures ∙ ap is_some (over_found as_key (λ f. refl) held files c.args.self.now (key_name c.args.root c.args.key.now) (Some c.in-Some.entry.now) (c.in-Some.ensures (key_name c.args.root c.args.key.now) c.key_name.ensures))

pub returns-in-None : goal.returns-in-None
returns-in-None c held files = ap is_some (over_found as_key (λ f. refl) held files c.args.self.now (key_name c.args.root c.args.key.now) None (c.in-None.ensures (key_name c.args.root c.args.key.now) c.key_name.ensures))
