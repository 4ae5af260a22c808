-- The entry that is put is the one that was judged.
use Rattle.std.proofs.Common.{ap, ◌∙◌}
use Rattle.mi_base.specs.Limits.{fits}
use Rattle.mi_steps.specs.Makes.{is_file}
use Rattle.mi_row_steps.proofs.SizeLemmas.{put_small, put_refused}
use Rattle.mi_row_steps.proofs.put.put_sized.Goals as goal

pub put_entry-requires-clause-right : goal.put_entry-requires-clause-right
put_entry-requires-clause-right c = ap fits c.in-Ok.ensures.is ∙ c.in-Ok.ensures.right

pub put_entry-requires-clause-plain : goal.put_entry-requires-clause-plain
put_entry-requires-clause-plain c = ap is_file c.in-Ok.ensures.is ∙ c.requires.plain

pub returns-in-Ok-put_entry-clause-put : goal.returns-in-Ok-put_entry-clause-put
returns-in-Ok-put_entry-clause-put c = λ held files. put_small held files c.args.plan.now c.put_entry.new.plan c.args.table.now c.args.number c.args.entry c.in-Ok.entry c.in-Ok.ensures (c.in-Ok-put_entry.ensures.makes held files)

pub returns-in-Err-clause-put : goal.returns-in-Err-clause-put
returns-in-Err-clause-put c = λ held files. put_refused held files c.args.plan.now c.args.plan.now c.args.table.now c.args.number c.args.entry c.in-Err.error c.in-Err.ensures
