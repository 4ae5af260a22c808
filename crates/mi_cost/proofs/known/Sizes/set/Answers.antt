use Rattle.std.proofs.Common.{Some, ap, ◌∙◌}
use Rattle.std.specs.Prelude.{String, string_bytes}
use Rattle.std.specs.declared.alloc.Global.{Global}
use Rattle.std.specs.FinMap as map
use Rattle.mi_text.proofs.TreeLemmas.{stored_as}
use Rattle.mi_cost.proofs.known.Sizes.set.Goals as goal

pub returns-clause-ok : goal.returns-clause-ok
returns-clause-ok c =
    stored_as (λ (k : String Global). string_bytes k) c.self.inside.sizes c.insert.new.self (string_bytes c.in_ok-key.key) (Some c.args.size) c.in_ok-insert.ensures.updates
    ∙ ap (λ m. map.insert m (string_bytes c.in_ok-key.key) c.args.size) c.self.view_is
    ∙ ap (λ k. map.insert c.args.self.now k c.args.size) c.in_ok-key.ensures.ok
