-- By what the row says.
use Rattle.std.proofs.Common.{refl, sym, ap, subst, ◌∙◌}
use Rattle.std.specs.Prelude.{codes}
use Rattle.mi_model.specs.RegistryRows as model
use Rattle.mi_records.specs.declared.says.Says.{Says}
use Rattle.mi_records.specs.declared.says.Says.TheVariants.{Writes}
use Rattle.mi_records.specs.Meaning.{meant}
use Rattle.mi_records.specs.Rows.{RowIn}
use Rattle.mi_records.proofs.WriteLemmas.{effect_of, key_written}
use Rattle.mi_records.proofs.write.write_meaning.Goals as goal

pub returns-in-KeyAlone-clause-row : goal.returns-in-KeyAlone-clause-row
returns-in-KeyAlone-clause-row c = λ held files row.
    subst (λ (s : Says). RowIn held files c.args.plan.now c.write_key.new.plan (codes "Registry") row (effect_of c.args.meaning.now.place (meant s) row) c.write_key.result) (sym c.in-KeyAlone.is)
    (key_written held files c.args.plan.now c.write_key.new.plan c.args.meaning.now.place model.KeyAlone row c.write_key.result refl (c.write_key.ensures.makes held files))

pub returns-in-Makes-clause-row : goal.returns-in-Makes-clause-row
returns-in-Makes-clause-row c = λ held files row.
    subst (λ (s : Says). RowIn held files c.args.plan.now c.write_key-in-Makes.new.plan (codes "Registry") row (effect_of c.args.meaning.now.place (meant s) row) c.write_key-in-Makes.result) (sym c.in-Makes.is)
    (key_written held files c.args.plan.now c.write_key-in-Makes.new.plan c.args.meaning.now.place model.Makes row c.write_key-in-Makes.result refl (c.write_key-in-Makes.ensures.makes held files))

pub returns-in-MakesAndRemoves-clause-row : goal.returns-in-MakesAndRemoves-clause-row
returns-in-MakesAndRemoves-clause-row c = λ held files row.
    subst (λ (s : Says). RowIn held files c.args.plan.now c.write_key-in-MakesAndRemoves.new.plan (codes "Registry") row (effect_of c.args.meaning.now.place (meant s) row) c.write_key-in-MakesAndRemoves.result) (sym c.in-MakesAndRemoves.is)
    (key_written held files c.args.plan.now c.write_key-in-MakesAndRemoves.new.plan c.args.meaning.now.place model.MakesAndRemoves row c.write_key-in-MakesAndRemoves.result refl (c.write_key-in-MakesAndRemoves.ensures.makes held files))

pub returns-in-Writes-clause-row : goal.returns-in-Writes-clause-row
returns-in-Writes-clause-row c = λ held files row.
    subst (λ (s : Says). RowIn held files c.args.plan.now c.write_value.new.plan (codes "Registry") row (effect_of c.args.meaning.now.place (meant s) row) c.write_value.result) (sym (c.in-Writes.is ∙ ap Writes (sym c.as_str.ensures)))
    (c.write_value.ensures.row held files row)
