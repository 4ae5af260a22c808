use Rattle.std.proofs.Common.{◌∙◌, map}
use Rattle.mi_idt.specs.Means.{column_value}
use Rattle.mi_idt.specs.Rows.{cells_of}
use Rattle.mi_idt.proofs.Joins.{key_is}
use Rattle.mi_idt.proofs.keys.key_text.Goals as goal

pub returns : goal.returns
returns c = c.from_vec.ensures ∙ key_is (cells_of (map column_value c.args.columns.now) (map (λ b. b.now) c.args.fields.now)) c.args.keys.now c.loop-i.i c.loop-i.out.items c.loop-i-test.false c.loop-i.invariant
