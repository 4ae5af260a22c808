-- The number fits sixteen bytes.
use Rattle.std.proofs.Math.Facts.{Fits-lt-pow}
use Rattle.mi_text.proofs.GuidLemmas.{guid_of-guid_text}
use Rattle.mi_text.proofs.laws.printed_code_is_read.Goals as goal

pub returns : goal.returns
returns c = guid_of-guid_text c.args.number (Fits-lt-pow c.ranges.number)
