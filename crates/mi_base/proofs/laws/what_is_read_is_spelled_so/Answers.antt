use Rattle.mi_base.proofs.EntryLemmas.{spells}
use Rattle.mi_base.proofs.laws.what_is_read_is_spelled_so.Goals as goal

pub returns : goal.returns
returns c name bytes e is = let s = spells name bytes e is in (s.named, s.spelled, (s.is, s.right))
