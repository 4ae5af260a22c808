-- An empty key path is short.
use Rattle.std.proofs.Common.{ap}
use Rattle.mi_base.specs.Limits.{fits, is_short}
use Rattle.mi_client_steps.proofs.clients.drop_client.Goals as goal

pub drop_entry-done-requires : goal.drop_entry-done-requires
unfolding fits
drop_entry-done-requires c = ap is_short c.new.ensures
