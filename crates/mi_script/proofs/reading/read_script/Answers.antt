-- Written out, so that an edit that turns it is refused at once (docs/GATE.md).
use Rattle.std.proofs.Common.{rules}
use Rattle.mi_script.specs.Reading.{script_of}
use Rattle.mi_script.proofs.reading.read_script.Goals as goal

pub returns-in_err-recs : goal.returns-in_err-recs
unfolding script_of
returns-in_err-recs c = search rules

pub returns-then-not-is_empty : goal.returns-then-not-is_empty
unfolding script_of
returns-then-not-is_empty c = search rules

pub returns : goal.returns
unfolding script_of
returns c = search rules
