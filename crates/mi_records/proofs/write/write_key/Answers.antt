use Rattle.std.proofs.Common.{List, ℕ, sym, subst}
use Rattle.std.specs.Prelude.{Result}
use Rattle.mi_model.specs.Parents.{key_with_parents}
use Rattle.mi_records.specs.declared.stop.Stop.{Stop}
use Rattle.mi_records.specs.Rows.{Only}
use Rattle.mi_records.proofs.WriteLemmas.{only_of}
use Rattle.mi_records.proofs.write.write_key.Goals as goal

pub returns-clause-makes : goal.returns-clause-makes
returns-clause-makes c = λ held files.
    subst (λ (k : List ℕ). Only held files c.args.plan.now c.make_keys.new.plan (key_with_parents c.args.place.now.root k) c.or_stop.result) c.key.ensures.key
    (subst (λ (r : ℕ). Only held files c.args.plan.now c.make_keys.new.plan (key_with_parents r c.key.result.now) c.or_stop.result) c.root.ensures.root
    (subst (λ (r : Result _ Stop). Only held files c.args.plan.now c.make_keys.new.plan (key_with_parents c.root.result c.key.result.now) r) (sym c.or_stop.ensures)
    (only_of held files c.args.plan.now c.make_keys.new.plan (key_with_parents c.root.result c.key.result.now) c.make_keys.result (c.make_keys.ensures.makes held files))))
