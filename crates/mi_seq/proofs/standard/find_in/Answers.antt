-- The first entry of the name.
use Rattle.std.proofs.Common.{sym, ◌∙◌}
use Rattle.mi_seq.proofs.StandardLemmas.{entry_here, entry_behind}
use Rattle.mi_seq.proofs.standard.find_in.Goals as goal

pub returns-then-eq : goal.returns-then-eq
returns-then-eq c = sym (c.loop-entry.invariant ∙ entry_here c.args.action.now c.args.entries.now c.loop-entry.entry-index _ c.loop-entry-test.true (sym c.eq.ensures ∙ c.if-eq.true))

pub loop-entry-preserved : goal.loop-entry-preserved
loop-entry-preserved c = c.loop-entry.invariant ∙ entry_behind c.args.action.now c.args.entries.now c.loop-entry.entry-index _ c.loop-entry-test.true (sym c.eq.ensures ∙ c.if-eq.false)
