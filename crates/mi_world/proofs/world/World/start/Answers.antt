use Rattle.std.proofs.Common.{ap}
use Rattle.mi_image.specs.Items.{machine_over}
use Rattle.mi_image.specs.Overlays.{present_items}
use Rattle.mi_world.proofs.WorldLemmas.{start_so}
use Rattle.mi_world.proofs.world.World.start.Goals as goal

pub returns-in-Ok-clause-started : goal.returns-in-Ok-clause-started
returns-in-Ok-clause-started c = λ held files g starts.
    start_so g c.args.loaded c.args.props (machine_over held files (present_items c.new.result)) (machine_over held files c.args.image) c.args.now starts (ap (machine_over held files) c.new.ensures.present)
