-- Written out, so that an edit that turns it is refused at once (docs/CONTRIBUTING.md).
use Rattle.std.proofs.Common.{rules}
use Rattle.mi_file_rows.proofs.versions.languages_of_row.Goals as goal

pub as_str-requires : goal.as_str-requires
as_str-requires c = search rules

pub languages_in-requires : goal.languages_in-requires
languages_in-requires c = search rules

pub returns-in-Some : goal.returns-in-Some
returns-in-Some c = search rules

pub languages_in-requires-in-None : goal.languages_in-requires-in-None
languages_in-requires-in-None c = search rules

pub returns-in-None : goal.returns-in-None
returns-in-None c = search rules
