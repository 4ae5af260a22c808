-- A row with a Value makes no key.
use Rattle.mi_records.specs.Meaning.{numbered}
use Rattle.mi_records.proofs.NamedLemmas.{valued_none}
use Rattle.mi_records.proofs.named.kept_key.Goals as goal

pub returns-in-Some : goal.returns-in-Some
returns-in-Some g c = λ w number asked. valued_none w (numbered number c.args.row.now) c.in-Some.field-0 c.in-Some.is
