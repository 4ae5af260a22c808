-- The text is judged, then its key is made and the value put.
use Rattle.std.proofs.Common.{sym, subst}
use Rattle.std.specs.Prelude.{codes, Result, Err}
use Rattle.std.specs.FinMap.{empty}
use Rattle.mi_image.specs.Items.{Items, machine_over}
use Rattle.mi_model.specs.RegistryRows as model
use Rattle.mi_records.specs.declared.stop.Stop.{Stop}
use Rattle.mi_records.specs.Rows.{RowIn}
use Rattle.mi_records.specs.Values.{IsValueAt, MakesValue}
use Rattle.mi_records.proofs.WriteLemmas.{effect_of, value_named, value_plain, value_written, value_refused}
use Rattle.mi_records.proofs.write.write_value.Goals as goal

pub put_value-requires-clause-right : goal.put_value-requires-clause-right
put_value-requires-clause-right c = (c.in-Ok.ensures empty empty).right

pub put_value-requires-clause-plain : goal.put_value-requires-clause-plain
put_value-requires-clause-plain c = let at = c.in-Ok.ensures empty empty in value_plain c.args.place.now at.value c.in-Ok.entry at.is

pub put_value-requires-clause-named : goal.put_value-requires-clause-named
put_value-requires-clause-named c = let at = c.in-Ok.ensures empty empty in value_named c.args.place.now at.value c.in-Ok.entry at.is

pub returns-in-Ok-clause-row : goal.returns-in-Ok-clause-row
returns-in-Ok-clause-row c = λ held files row.
    let at = subst (λ (items : Items). IsValueAt (machine_over held files items) c.args.place.now c.args.text.now c.in-Ok.entry) c.image.ensures (c.in-Ok.ensures held files) in
    subst (λ (r : Result _ Stop). RowIn held files c.args.plan.now c.put_value.new.plan (codes "Registry") row (effect_of c.args.place.now (model.Writes c.args.text.now) row) r) (sym c.or_stop.ensures)
    (value_written held files c.args.plan.now c.put_value.new.plan c.args.place.now c.args.text.now c.in-Ok.entry row c.put_value.result at (c.put_value.ensures.makes held files))

pub returns-in-Err-clause-row : goal.returns-in-Err-clause-row
returns-in-Err-clause-row c = λ held files row.
    value_refused held files c.args.plan.now c.args.plan.now (Unit {0}) c.args.place.now c.args.text.now row c.in-Err.stop
    (subst (λ (items : Items). MakesValue (machine_over held files items) c.args.place.now c.args.text.now (Err c.in-Err.stop)) c.image.ensures (c.in-Err.ensures held files))
