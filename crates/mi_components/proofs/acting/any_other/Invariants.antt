use Rattle.std.proofs.Common.{◌≡◌, ◌==◌, not, false, take}
use Rattle.std.specs.List.{list_any}
use Rattle.mi_base.specs.declared.entry.Client.{Client}
use Rattle.mi_components.proofs.acting.any_other.Given as goal

abbrev pub invariant-loop-client : goal.invariant-loop-client
invariant-loop-client l = list_any (λ (c : Client). not (c.product.number == l.code.number)) (take l.client-index l.clients) ≡ false
