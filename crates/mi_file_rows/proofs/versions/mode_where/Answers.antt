-- Written out, so that an edit that turns it is refused at once (docs/CONTRIBUTING.md).
use Rattle.std.proofs.Common.{rules}
use Rattle.mi_file_rows.proofs.versions.mode_where.Goals as goal

pub writes_some-requires : goal.writes_some-requires
writes_some-requires c = search rules

pub returns-then-writes_some : goal.returns-then-writes_some
returns-then-writes_some c = search rules

pub returns-else-writes_some : goal.returns-else-writes_some
returns-else-writes_some c = search rules
