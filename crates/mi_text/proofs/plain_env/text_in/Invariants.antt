use Rattle.std.proofs.Common.{◌≡◌, drop}
use Rattle.mi_text.specs.Plain.{text_in}
use Rattle.mi_text.proofs.plain_env.text_in.Given as goal

abbrev pub invariant-loop-item : goal.invariant-loop-item
invariant-loop-item l = text_in (drop l.item-index l.items) l.name ≡ text_in l.items l.name
