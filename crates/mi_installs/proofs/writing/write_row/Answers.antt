-- From the path of the row's file in the source.
use Rattle.std.proofs.Common.{sym, ◌∙◌}
use Rattle.mi_installs.proofs.writing.write_row.Goals as goal

pub returns-clause-row : goal.returns-clause-row
returns-clause-row g c = λ held w asked told over.
    c.write_from.ensures.row held w (asked.moment ∙ sym c.moment.ensures) (c.as_str.ensures ∙ c.in_ok-path.ensures w asked) told over
