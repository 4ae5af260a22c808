use Rattle.std.proofs.Common.{◌≡◌, drop}
use Rattle.mi_text.specs.Plain.{state_in}
use Rattle.mi_text.proofs.plain_env.state_in.Given as goal

abbrev pub invariant-loop-item : goal.invariant-loop-item
invariant-loop-item l = state_in (drop l.item-index l.items) l.sign l.key ≡ state_in l.items l.sign l.key
