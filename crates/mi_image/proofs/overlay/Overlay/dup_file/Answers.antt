use Rattle.std.proofs.Common.{List, ℕ, Some, length, ap, ◌∙◌}
use Rattle.std.specs.FinMap as tree
use Rattle.mi_base.specs.declared.entry.Entry.TheVariants as entry
use Rattle.mi_base.specs.Names.{file_name}
use Rattle.mi_base.specs.Records.{with_bytes}
use Rattle.mi_image.specs.declared.item.Item.TheVariants.{Head}
use Rattle.mi_image.specs.Items.{Items, bytes_of_file, machine_over}
use Rattle.mi_image.specs.Overlays.{present_machine}
use Rattle.mi_image.proofs.EffectLemmas.{over_set, there_put, length_there}
use Rattle.mi_image.proofs.overlay.Overlay.dup_file.Goals as goal

pub returns-in_ok-put-in-Ok-clause-machine : goal.returns-in_ok-put-in-Ok-clause-machine
returns-in_ok-put-in-Ok-clause-machine c held files =
    let bytes = c.in-Ok.ensures held files (file_name c.args.head.shown) ∙ ap (λ (i : Items). bytes_of_file (tree.get (machine_over held files i) c.args.from.now)) c.image.ensures in
    over_set held files (c.args.self.now).1 (c.put.new.self).1 c.args.name.now (Some (Head c.args.head c.in-Ok.content)) c.in_ok-put-in-Ok.ensures.ok
    ∙ ap (λ (b : List ℕ). tree.insert (present_machine held files c.args.self.now) c.args.name.now (entry.File (with_bytes c.args.head b))) bytes

pub returns-in_ok-put-in-Ok-clause-there : goal.returns-in_ok-put-in-Ok-clause-there
returns-in_ok-put-in-Ok-clause-there c held files there =
    let bytes = c.in-Ok.ensures held files (file_name c.args.head.shown) ∙ ap (λ (i : Items). bytes_of_file (tree.get (machine_over held files i) c.args.from.now)) c.image.ensures in
    let long = ap length bytes ∙ length_there held files (c.args.self.now).1 c.args.from.now c.args.head.length c.requires.from there in
    there_put held files (c.args.self.now).1 (c.put.new.self).1 c.args.name.now (Head c.args.head c.in-Ok.content) c.in_ok-put-in-Ok.ensures.ok long there
