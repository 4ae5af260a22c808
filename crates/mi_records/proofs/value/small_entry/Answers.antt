-- An entry without a record is too large.
use Rattle.std.proofs.Common.{ap, sym, ◌∙◌}
use Rattle.mi_base.specs.Limits.{fits}
use Rattle.mi_records.specs.Values.{is_too_large}
use Rattle.mi_records.proofs.ValueLemmas.{large_at}
use Rattle.mi_records.proofs.value.small_entry.Goals as goal

pub small_enough-requires : goal.small_enough-requires
small_enough-requires c = λ unfit. ap is_too_large c.in-Ok.ensures.entry ∙ large_at c.args.place.now c.args.value c.in-Ok.ensures.right (ap fits (sym c.in-Ok.ensures.entry) ∙ unfit)
