use Rattle.std.proofs.Common.{Some}
use Rattle.mi_image.specs.declared.item.Content.TheVariants.{Copied}
use Rattle.mi_image.specs.declared.item.Item.TheVariants.{Head}
use Rattle.mi_image.proofs.EffectLemmas.{over_set, there_put}
use Rattle.mi_image.proofs.overlay.Overlay.copy_file.Goals as goal

pub returns-clause-machine : goal.returns-clause-machine
returns-clause-machine c held files = over_set held files (c.args.self.now).1 (c.put.new.self).1 c.args.name.now (Some (Head c.args.head (Copied c.args.path))) c.in_ok-put.ensures.ok

pub returns-clause-there : goal.returns-clause-there
returns-clause-there c held files long = there_put held files (c.args.self.now).1 (c.put.new.self).1 c.args.name.now (Head c.args.head (Copied c.args.path)) c.in_ok-put.ensures.ok long
