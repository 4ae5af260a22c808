-- Written out, so that an edit that turns it is refused at once (docs/CONTRIBUTING.md).
use Rattle.std.proofs.Common.{rules}
use Rattle.mi_file_rows.proofs.versions.attributes_of_row.Goals as goal

pub cast_unsigned-requires : goal.cast_unsigned-requires
cast_unsigned-requires c = search rules

pub returns-in-Some : goal.returns-in-Some
returns-in-Some c = search rules

pub returns-in-None : goal.returns-in-None
returns-in-None c = search rules
