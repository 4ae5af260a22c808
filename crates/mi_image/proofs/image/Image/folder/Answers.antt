use Rattle.std.proofs.Common.{Some, None, refl, ap, ◌∙◌}
use Rattle.std.specs.Prelude.{is_some}
use Rattle.mi_base.specs.Names.{folder_name}
use Rattle.mi_base.specs.Machine.{as_folder}
use Rattle.mi_image.proofs.LookupLemmas.{over_found}
use Rattle.mi_image.proofs.image.Image.folder.Goals as goal

pub returns-in-Some : goal.returns-in-Some
returns-in-Some c held files = c.is_folder.ensures ∙ ap is_some (over_found as_folder (λ f. refl) held files c.args.self.now (folder_name c.args.path.now) (Some c.in-Some.entry.now) (c.in-Some.ensures (folder_name c.args.path.now) c.folder_name.ensures))

pub returns-in-None : goal.returns-in-None
returns-in-None c held files = ap is_some (over_found as_folder (λ f. refl) held files c.args.self.now (folder_name c.args.path.now) None (c.in-None.ensures (folder_name c.args.path.now) c.folder_name.ensures))
