use Rattle.mi_laws.proofs.PlainPackageLemmas as lemma
use Rattle.mi_laws.proofs.plain_laws.lawful_packages_have_codes.Goals as goal

pub returns : goal.returns
returns c = lemma.lawful_packages_have_codes
