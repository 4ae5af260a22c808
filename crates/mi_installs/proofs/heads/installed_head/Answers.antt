-- What the row says keeps the limits of a record.
use Rattle.mi_installs.proofs.HeadLemmas.{head_fits}
use Rattle.mi_installs.proofs.heads.installed_head.Goals as goal

pub returns-clause-fits : goal.returns-clause-fits
returns-clause-fits c =
    head_fits c.args.placed.now c.in_ok-copy.field-0 c.version_of_row.result c.in_ok-languages_of_row.field-0 c.attributes_of_row.result c.in_ok-copy.ensures c.version_of_row.ensures c.in_ok-languages_of_row.ensures c.attributes_of_row.ensures c.args.moment c.requires.path c.requires.languages
