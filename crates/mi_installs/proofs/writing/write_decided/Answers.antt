-- A row that is written, or not.
use Rattle.std.proofs.Common.{sym, ◌∙◌}
use Rattle.mi_installs.proofs.InstallLemmas.{row_written, row_skipped}
use Rattle.mi_installs.proofs.LengthLemmas.{whole_not}
use Rattle.mi_installs.proofs.writing.write_decided.Goals as goal

pub returns-then-decided-clause-row : goal.returns-then-decided-clause-row
returns-then-decided-clause-row g c = λ held w asked told over is.
    row_written held (g.S.Source.files c.args.src.now) c.args.plan.now c.write_row.new.plan w c.args.placed.now c.write_row.result (sym c.if-decided.true ∙ is) (c.write_row.ensures.row held w asked told over)

pub returns-else-decided-clause-row : goal.returns-else-decided-clause-row
returns-else-decided-clause-row g c = λ held w asked told over is. row_skipped {A = Unit {0}} held (g.S.Source.files c.args.src.now) c.args.plan.now w c.args.placed.now tt (sym c.if-decided.false ∙ is)

pub returns-else-decided-clause-lengths : goal.returns-else-decided-clause-lengths
returns-else-decided-clause-lengths g c = λ told. whole_not (g.S.Source.files c.args.src.now) c.args.plan.now.script
