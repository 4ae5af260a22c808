use Rattle.std.proofs.Common.{sym, subst}
use Rattle.std.specs.Option.{option_copied}
use Rattle.mi_text.specs.Maps.{Name}
use Rattle.mi_volume.specs.Maps.{IsAbove}
use Rattle.mi_volume.proofs.NextLaws.{next-above}
use Rattle.mi_volume.proofs.memory_volume.MemVolumeVolume.next.Goals as goal

pub returns-in_ok-copy-in-Some-clause-above : goal.returns-in_ok-copy-in-Some-clause-above
returns-in_ok-copy-in-Some-clause-above c =
    subst (λ (n : Name). IsAbove (option_copied c.args.after) n) (sym c.in_ok-copy-in-Some.ensures)
    (next-above c.look.new.self.kept.held (option_copied c.args.after) c.in-Some.name.now (sym c.in-Some.ensures))
