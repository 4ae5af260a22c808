use Rattle.mi_base.proofs.EntryLemmas.{reads}
use Rattle.mi_base.proofs.laws.a_record_is_read_as_its_entry.Goals as goal

pub returns : goal.returns
returns c e fits = reads e fits.0 fits.1
