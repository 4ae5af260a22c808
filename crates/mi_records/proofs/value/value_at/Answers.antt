-- The value that is read, in its entry.
use Rattle.mi_image.specs.Items.{machine_over}
use Rattle.mi_records.proofs.ValueLemmas.{value_made_at, value_refused_at}
use Rattle.mi_records.proofs.value.value_at.Goals as goal

pub returns-in-Ok : goal.returns-in-Ok
returns-in-Ok c = λ held files. value_made_at (machine_over held files c.args.image.now) c.args.place.now c.args.text.now c.in-Ok.value c.small_entry.result c.small_entry.ensures.right (c.in-Ok.ensures held files) c.small_entry.ensures.size

pub returns-in-Err : goal.returns-in-Err
returns-in-Err c = λ held files. value_refused_at (machine_over held files c.args.image.now) c.args.place.now c.args.text.now c.in-Err.stop (c.in-Err.ensures held files)
