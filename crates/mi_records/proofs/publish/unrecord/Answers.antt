-- A record without a name and without features keeps its limits.
use Rattle.std.proofs.Common.{refl}
use Rattle.mi_base.specs.Limits.{fits}
use Rattle.mi_records.proofs.publish.unrecord.Goals as goal

pub drop_entry-done-requires : goal.drop_entry-done-requires
unfolding fits
drop_entry-done-requires c = rw (c.new.ensures, c.new-2.ensures) refl
